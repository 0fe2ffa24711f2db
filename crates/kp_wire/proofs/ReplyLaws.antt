-- The forms of replies are lawful.
use Rattle.std.proofs.Common.{◌≡◌, ℤ, pos, Bool, true, false, cond, Some, refl, sym, ap, ◌∙◌}
use Rattle.std.specs.Ordering.{int_eq}
use Rattle.kp_jute.specs.Form.{Lawful, ◌⊗◌, present, tagged}
use Rattle.kp_jute.specs.Jute.{ints, texts, buffers, vectors, unsigned_ints}
use Rattle.kp_jute.proofs.Cases.{narrowed_lawful, present_lawful, tagged_lawful}
use Rattle.kp_jute.proofs.Combined.{◌&◌, seen_lawful}
use Rattle.kp_jute.proofs.Numbers.{ints_lawful, unsigned_ints_lawful}
use Rattle.kp_jute.proofs.Lengths.{texts_lawful, buffers_lawful, vectors_lawful}
use Rattle.kp_wire.specs.declared.reply.Shape.{Shape}
use Rattle.kp_wire.specs.declared.reply.Shape.TheVariants as shapes
use Rattle.kp_wire.specs.declared.reply.WireReply.{WireReply}
use Rattle.kp_wire.specs.declared.reply.WireReply.TheVariants as reply
use Rattle.kp_wire.specs.OpResults.{held, failed}
use Rattle.kp_wire.specs.Replies.{granted, acl_lists, name_lists, bodies, Outcome, refused, granted_as, outcome_of, code_in, outcomes, OutcomeHeld, outcome_bodies, reply_of, outcome_in, replies}
use Rattle.kp_wire.proofs.PartLaws.{nothing_lawful, same_int, some_is}
use Rattle.kp_wire.proofs.ResultLaws.{multis_lawful}
use Rattle.kp_wire.proofs.CommonLaws.{stats_lawful}

paths_lawful : Lawful (present texts)
paths_lawful = present_lawful texts texts_lawful

granted_lawful : Lawful granted
granted_lawful = seen_lawful _ _ (unsigned_ints ⊗ (present texts ⊗ present texts)) (λ _. refl) (λ _. refl) (unsigned_ints_lawful & (paths_lawful & paths_lawful))

acl_lists_lawful : Lawful acl_lists
acl_lists_lawful = present_lawful (vectors granted) (vectors_lawful granted granted_lawful)

name_lists_lawful : Lawful name_lists
name_lists_lawful = present_lawful (vectors (present texts)) (vectors_lawful (present texts) paths_lawful)

bodies_lawful : (s : Shape) → Lawful (bodies s)
bodies_lawful shapes.Empty = nothing_lawful
bodies_lawful shapes.Path = paths_lawful
bodies_lawful shapes.PathStat = paths_lawful & stats_lawful
bodies_lawful shapes.Stat = stats_lawful
bodies_lawful shapes.Data = present_lawful buffers buffers_lawful & stats_lawful
bodies_lawful shapes.Acl = acl_lists_lawful & stats_lawful
bodies_lawful shapes.Names = name_lists_lawful
bodies_lawful shapes.NamesStat = name_lists_lawful & stats_lawful
bodies_lawful shapes.Multi = multis_lawful

code_of_test : (s : Shape) (z : ℤ) (b : Bool) → (b ≡ true → z ≡ pos 0) → code_in (cond b (granted_as s) (refused z)) ≡ z
code_of_test s z true is = sym (is refl)
code_of_test s z false is = refl

code_back : (s : Shape) (z : ℤ) (o : Outcome) → Some (outcome_of s z) ≡ Some o → code_in o ≡ z
code_back s z o e = ap code_in (sym (some_is (outcome_of s z) o e)) ∙ code_of_test s z (int_eq z (pos 0)) (same_int z (pos 0))

outcomes_lawful : (s : Shape) → Lawful (outcomes s)
outcomes_lawful s = narrowed_lawful (λ z. Some (outcome_of s z)) code_in ints (code_back s) ints_lawful

outcome_bodies_lawful : (o : Outcome) → Lawful (outcome_bodies o)
outcome_bodies_lawful (refused z) = nothing_lawful
outcome_bodies_lawful (granted_as s) = bodies_lawful s

there : (t : (o : Outcome) × OutcomeHeld o) → outcome_in (reply_of t) ≡ t
there (refused z, u) = refl
there (granted_as shapes.Empty, u) = refl
there (granted_as shapes.Path, path) = refl
there (granted_as shapes.PathStat, h) = refl
there (granted_as shapes.Stat, stat) = refl
there (granted_as shapes.Data, h) = refl
there (granted_as shapes.Acl, h) = refl
there (granted_as shapes.Names, names) = refl
there (granted_as shapes.NamesStat, h) = refl
there (granted_as shapes.Multi, held xs) = refl
there (granted_as shapes.Multi, failed zs) = refl

back : (r : WireReply) → reply_of (outcome_in r) ≡ r
back (reply.Err z) = refl
back reply.Empty = refl
back (reply.Path path) = refl
back (reply.PathStat path stat) = refl
back (reply.Stat stat) = refl
back (reply.Data bytes stat) = refl
back (reply.Acl acl stat) = refl
back (reply.Names names) = refl
back (reply.NamesStat names stat) = refl
back (reply.Multi xs) = refl
back (reply.Failed zs) = refl

pub replies_lawful : (s : Shape) → Lawful (replies s)
replies_lawful s = seen_lawful reply_of outcome_in (tagged (outcomes s) outcome_bodies) there back (tagged_lawful (outcomes s) outcome_bodies (outcomes_lawful s) outcome_bodies_lawful)
