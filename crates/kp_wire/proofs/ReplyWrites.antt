-- What is written for a reply is its spelling.
use Rattle.std.proofs.Common.{◌≡◌, ℕ, ℤ, pos, Bool, true, false, cond, List, ◌++◌, Some, refl, sym, ap, subst, ◌∙◌, append_assoc}
use Rattle.std.specs.Ordering.{int_eq}
use Rattle.std.proofs.lemmas.List.{append-nil}
use Rattle.kp_jute.specs.Form.{Wrote, tagged}
use Rattle.kp_jute.specs.Jute.{ints}
use Rattle.kp_wire.specs.declared.reply.Shape.{Shape}
use Rattle.kp_wire.specs.declared.reply.Shape.TheVariants as shapes
use Rattle.kp_wire.specs.declared.reply.WireReply.{WireReply}
use Rattle.kp_wire.specs.declared.reply.WireReply.TheVariants as reply
use Rattle.kp_wire.specs.OpResults.{held, failed}
use Rattle.kp_wire.specs.Replies.{Held, bodies, Outcome, refused, granted_as, outcome_of, outcomes, outcome_bodies, outcome_in, replies, shape_in, HasShape, WroteBody}
use Rattle.kp_wire.proofs.Differ.{differ}
use Rattle.kp_wire.proofs.PartLaws.{some_is}

-- the same, seen as a reply
as_reply : (s : Shape) (r : WireReply) (a c : List ℕ) → Wrote (tagged (outcomes s) outcome_bodies) (outcome_in r) a c → Wrote (replies s) r a c
as_reply s r a c w = record { fits = w.fits; added = w.added }

-- a body behind the code 0
done_with : (s : Shape) (h : Held s) (a b c : List ℕ) → Wrote ints (pos 0) a b → Wrote (bodies s) h b c → Wrote (tagged (outcomes s) outcome_bodies) (granted_as s, h) a c
done_with s h a b c code body = record {
  fits = ((code.fits, refl), body.fits);
  added = body.added ∙ ap (λ (u : List ℕ). u ++ (bodies s).spell h) code.added ∙ append_assoc a (ints.spell (pos 0)) ((bodies s).spell h);
}

pub wrote_done : (r : WireReply) (a b c : List ℕ) → Wrote ints (pos 0) a b → WroteBody r b c → Wrote (replies (shape_in r)) r a c
wrote_done (reply.Err z) a b c code body = absurd body
wrote_done reply.Empty a b c code body = as_reply shapes.Empty reply.Empty a c (done_with shapes.Empty tt a b c code body)
wrote_done (reply.Path path) a b c code body = as_reply shapes.Path (reply.Path path) a c (done_with shapes.Path path a b c code body)
wrote_done (reply.PathStat path stat) a b c code body = as_reply shapes.PathStat (reply.PathStat path stat) a c (done_with shapes.PathStat (path, stat) a b c code body)
wrote_done (reply.Stat stat) a b c code body = as_reply shapes.Stat (reply.Stat stat) a c (done_with shapes.Stat stat a b c code body)
wrote_done (reply.Data bytes stat) a b c code body = as_reply shapes.Data (reply.Data bytes stat) a c (done_with shapes.Data (bytes, stat) a b c code body)
wrote_done (reply.Acl acl stat) a b c code body = as_reply shapes.Acl (reply.Acl acl stat) a c (done_with shapes.Acl (acl, stat) a b c code body)
wrote_done (reply.Names names) a b c code body = as_reply shapes.Names (reply.Names names) a c (done_with shapes.Names names a b c code body)
wrote_done (reply.NamesStat names stat) a b c code body = as_reply shapes.NamesStat (reply.NamesStat names stat) a c (done_with shapes.NamesStat (names, stat) a b c code body)
wrote_done (reply.Multi xs) a b c code body = as_reply shapes.Multi (reply.Multi xs) a c (done_with shapes.Multi (held xs) a b c code body)
wrote_done (reply.Failed zs) a b c code body = as_reply shapes.Multi (reply.Failed zs) a c (done_with shapes.Multi (failed zs) a b c code body)

-- a code other than 0
refused_fits : (s : Shape) (z : ℤ) → int_eq z (pos 0) ≡ false → outcome_of s z ≡ refused z
refused_fits s z is = ap (λ (b : Bool). cond b (granted_as s) (refused z)) is

refused_with : (s : Shape) (z : ℤ) (a b : List ℕ) → int_eq z (pos 0) ≡ false → Wrote ints z a b → Wrote (replies s) (reply.Err z) a b
refused_with s z a b other code = record {
  fits = ((code.fits, ap (λ (o : Outcome). Some o) (refused_fits s z other)), tt);
  added = code.added ∙ ap (λ (u : List ℕ). a ++ u) (sym (append-nil (ints.spell z)));
}

pub wrote_refused : (z : ℤ) (a b : List ℕ) → ¬ (z ≡ pos 0) → Wrote ints z a b → Wrote (replies shapes.Empty) (reply.Err z) a b
wrote_refused z a b other code = refused_with shapes.Empty z a b (differ z (pos 0) other) code

-- ---- whatever the shape

not_zero : (s : Shape) (z : ℤ) (b : Bool) → cond b (granted_as s) (refused z) ≡ refused z → b ≡ false
not_zero s z true e = absurd cc
not_zero s z false e = refl

error_of_any : (s : Shape) (z : ℤ) (a b : List ℕ) → Wrote (replies shapes.Empty) (reply.Err z) a b → Wrote (replies s) (reply.Err z) a b
error_of_any s z a b w =
    let other = not_zero shapes.Empty z (int_eq z (pos 0)) (some_is (outcome_of shapes.Empty z) (refused z) w.fits.0.1) in
    record { fits = ((w.fits.0.0, ap (λ (o : Outcome). Some o) (refused_fits s z other)), tt); added = w.added }

along : (s : Shape) (r : WireReply) (a b : List ℕ) → shape_in r ≡ s → Wrote (replies (shape_in r)) r a b → Wrote (replies s) r a b
along s r a b is w = subst (λ (t : Shape). Wrote (replies t) r a b) is w

pub of_shape : (s : Shape) (r : WireReply) (a b : List ℕ) → HasShape s r → Wrote (replies (shape_in r)) r a b → Wrote (replies s) r a b
of_shape s (reply.Err z) a b h w = error_of_any s z a b w
of_shape s reply.Empty a b h w = along s reply.Empty a b h w
of_shape s (reply.Path path) a b h w = along s (reply.Path path) a b h w
of_shape s (reply.PathStat path stat) a b h w = along s (reply.PathStat path stat) a b h w
of_shape s (reply.Stat stat) a b h w = along s (reply.Stat stat) a b h w
of_shape s (reply.Data bytes stat) a b h w = along s (reply.Data bytes stat) a b h w
of_shape s (reply.Acl acl stat) a b h w = along s (reply.Acl acl stat) a b h w
of_shape s (reply.Names names) a b h w = along s (reply.Names names) a b h w
of_shape s (reply.NamesStat names stat) a b h w = along s (reply.NamesStat names stat) a b h w
of_shape s (reply.Multi xs) a b h w = along s (reply.Multi xs) a b h w
of_shape s (reply.Failed zs) a b h w = along s (reply.Failed zs) a b h w
