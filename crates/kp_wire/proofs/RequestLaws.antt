-- The forms of requests are lawful.
use Rattle.std.proofs.Common.{◌≡◌, ℕ, ◌<◌, negsuc, Bool, length, Option, Some, None, Result, Ok, Err, refl, sym, ap, ◌∙◌, arith}
use Rattle.kp_jute.specs.declared.fault.JuteFail.{JuteFail}
use Rattle.kp_jute.specs.Form.{Place, ◌>>=◌, ◌⊗◌, Lawful, LawfulAtEnd, front, seen}
use Rattle.kp_jute.specs.Jute.{ints, longs, unsigned_ints, booleans, buffers, texts, vectors, untils, number, fixed_booleans, fixed_ints, packets}
use Rattle.kp_jute.proofs.Combined.{◌&◌, seen_lawful, ok_is}
use Rattle.kp_jute.proofs.Cases.{tagged_lawful, fixed_ints_lawful, fixed_booleans_lawful}
use Rattle.kp_jute.proofs.AtEnd.{at_end, both_at_end, seen_at_end, tagged_at_end, remains_at_end}
use Rattle.kp_jute.proofs.EndMarks.{untils_lawful}
use Rattle.kp_jute.proofs.Lengths.{buffers_lawful, texts_lawful, vectors_lawful}
use Rattle.kp_jute.proofs.Numbers.{ints_lawful, longs_lawful, unsigned_ints_lawful, booleans_lawful}
use Rattle.kp_jute.proofs.Packets.{packets_lawful}
use Rattle.kp_wire.specs.declared.kind.Kind.{Kind}
use Rattle.kp_wire.specs.declared.kind.Kind.TheVariants as kinds
use Rattle.kp_wire.specs.declared.kind.LookKind.TheVariants as looks
use Rattle.kp_wire.specs.declared.op_kind.OpKind.{OpKind}
use Rattle.kp_wire.specs.declared.op_kind.OpKind.TheVariants as op_kinds
use Rattle.kp_wire.specs.declared.request.WireAsk.{WireAsk}
use Rattle.kp_wire.specs.declared.request.WireAsk.TheVariants as ask
use Rattle.kp_wire.specs.declared.request.WireOp.{WireOp}
use Rattle.kp_wire.specs.declared.request.WireOp.TheVariants as op
use Rattle.kp_wire.specs.Common.{wire_acls}
use Rattle.kp_wire.specs.Kinds.{kind_forms}
use Rattle.kp_wire.specs.Request.{read_as, creations, versioneds, watcheds, settings, acl_settings, showings, watches, nothing, OpHeld, op_forms, step_kinds, is_end, StepHeld, step_bodies, marks, step_rests, op_of, step_of, step_in, op_at, behind_mark, step_parts, steps, Held, held_forms, ask_of_op, ask_of, ask_kind, ask_held, ask_at, ask_parts, asks, requests}
use Rattle.kp_wire.proofs.CommonLaws.{wire_acls_lawful}
use Rattle.kp_wire.proofs.KindLaws.{kinds_lawful, step_kinds_lawful}
use Rattle.kp_wire.proofs.Readings.{bind_assoc, bind_same, same_lawful, same_at_end}

-- ---- fields that several types share

acl_lists_lawful : Lawful (vectors wire_acls)
acl_lists_lawful = vectors_lawful wire_acls wire_acls_lawful

text_lists_lawful : Lawful (vectors texts)
text_lists_lawful = vectors_lawful texts texts_lawful

creations_lawful : Lawful creations
creations_lawful = seen_lawful _ _ (texts ⊗ (buffers ⊗ (vectors wire_acls ⊗ unsigned_ints))) (λ _. refl) (λ _. refl) (texts_lawful & (buffers_lawful & (acl_lists_lawful & unsigned_ints_lawful)))

versioneds_lawful : Lawful versioneds
versioneds_lawful = seen_lawful _ _ (texts ⊗ unsigned_ints) (λ _. refl) (λ _. refl) (texts_lawful & unsigned_ints_lawful)

watcheds_lawful : Lawful watcheds
watcheds_lawful = seen_lawful _ _ (texts ⊗ booleans) (λ _. refl) (λ _. refl) (texts_lawful & booleans_lawful)

settings_lawful : Lawful settings
settings_lawful = seen_lawful _ _ (texts ⊗ (buffers ⊗ unsigned_ints)) (λ _. refl) (λ _. refl) (texts_lawful & (buffers_lawful & unsigned_ints_lawful))

acl_settings_lawful : Lawful acl_settings
acl_settings_lawful = seen_lawful _ _ (texts ⊗ (vectors wire_acls ⊗ unsigned_ints)) (λ _. refl) (λ _. refl) (texts_lawful & (acl_lists_lawful & unsigned_ints_lawful))

showings_lawful : Lawful showings
showings_lawful = seen_lawful _ _ (ints ⊗ (texts ⊗ buffers)) (λ _. refl) (λ _. refl) (ints_lawful & (texts_lawful & buffers_lawful))

watches_lawful : Lawful watches
watches_lawful = seen_lawful _ _ (longs ⊗ (vectors texts ⊗ (vectors texts ⊗ vectors texts))) (λ _. refl) (λ _. refl) (longs_lawful & (text_lists_lawful & (text_lists_lawful & text_lists_lawful)))

nothing_lawful : Lawful nothing
nothing_lawful = record {
  takes = λ p v q fits e. rw (sym (ap (λ (x : Unit {0} × Place). x.1) (ok_is (tt, p) (v, q) e))) (record { parts = refl; moved = omega arith; rest_fits = fits }, tt);
  again = λ v at rest fits. ap (λ (n : ℕ). Ok (tt, front n rest)) (omega arith);
}

-- ---- operations

op_forms_lawful : (k : OpKind) → Lawful (op_forms k)
op_forms_lawful op_kinds.Create = creations_lawful
op_forms_lawful op_kinds.Create2 = creations_lawful
op_forms_lawful op_kinds.Delete = versioneds_lawful
op_forms_lawful op_kinds.SetData = settings_lawful
op_forms_lawful op_kinds.Check = versioneds_lawful

marks_lawful : (last : Bool) → Lawful (marks last)
marks_lawful last = seen_lawful _ _ (fixed_booleans last ⊗ fixed_ints (negsuc 0)) (λ _. refl) (λ _. refl) (fixed_booleans_lawful last & fixed_ints_lawful (negsuc 0))

step_bodies_lawful : (s : Option OpKind) → Lawful (step_bodies s)
step_bodies_lawful None = nothing_lawful
step_bodies_lawful (Some k) = op_forms_lawful k

step_rests_lawful : (s : Option OpKind) → Lawful (step_rests s)
step_rests_lawful s = seen_lawful (λ t. t.1) (λ h. (tt, h)) (marks (is_end s) ⊗ step_bodies s) (λ _. refl) (λ _. refl) (marks_lawful (is_end s) & step_bodies_lawful s)

step_there : (t : (s : Option OpKind) × StepHeld s) → step_in (step_of t) ≡ t
step_there (None, u) = refl
step_there (Some op_kinds.Create, h) = refl
step_there (Some op_kinds.Create2, h) = refl
step_there (Some op_kinds.Delete, h) = refl
step_there (Some op_kinds.SetData, h) = refl
step_there (Some op_kinds.Check, h) = refl

step_back : (o : Option WireOp) → step_of (step_in o) ≡ o
step_back None = refl
step_back (Some (op.Create path bytes acl flags)) = refl
step_back (Some (op.Create2 path bytes acl flags)) = refl
step_back (Some (op.Delete path version)) = refl
step_back (Some (op.SetData path bytes version)) = refl
step_back (Some (op.Check path version)) = refl

op_at_is : (k : OpKind) (q : Place) → read_as (op_of k) (op_forms k) q ≡ op_at k q
op_at_is op_kinds.Create q = refl
op_at_is op_kinds.Create2 q = refl
op_at_is op_kinds.Delete q = refl
op_at_is op_kinds.SetData q = refl
op_at_is op_kinds.Check q = refl

-- a value that was read, as another type
abbrev turned : {A B : Type 0} → (A → B) → Result (A × Place) JuteFail → Result (B × Place) JuteFail
turned f r = r >>= λ x. Ok (f x.0, x.1)

-- an operation with its type
abbrev some_step : (k : OpKind) → OpHeld k → (s : Option OpKind) × StepHeld s
some_step k h = (Some k, h)

abbrev with_mark : (k : OpKind) → Unit {0} → OpHeld k → Unit {0} × OpHeld k
with_mark k u h = (u, h)

chain_op : (k : OpKind) (u : Unit {0}) (r : Result (OpHeld k × Place) JuteFail) → turned step_of (turned (some_step k) (turned (λ (x : Unit {0} × OpHeld k). x.1) (turned (with_mark k u) r))) ≡ turned (λ (o : WireOp). Some o) (turned (op_of k) r)
chain_op k u (Ok y) = refl
chain_op k u (Err e) = refl

abbrev marked_by : (s : Option OpKind) → Unit {0} → StepHeld s → Unit {0} × StepHeld s
marked_by s u h = (u, h)

abbrev a_step : (s : Option OpKind) → StepHeld s → (s : Option OpKind) × StepHeld s
a_step s h = (s, h)

step_rest_in : (s : Option OpKind) (m : Result (Unit {0} × Place) JuteFail) → turned step_of (turned (a_step s) (turned (λ (x : Unit {0} × StepHeld s). x.1) (m >>= λ x. turned (marked_by s x.0) ((step_bodies s).read x.1)))) ≡ (m >>= λ u. behind_mark s u.1)
step_rest_in s (Err e) = refl
step_rest_in None (Ok u) = refl
step_rest_in (Some k) (Ok u) = chain_op k u.0 ((op_forms k).read u.1) ∙ ap (λ (r : Result (WireOp × Place) JuteFail). turned (λ (o : WireOp). Some o) r) (op_at_is k u.1)

step_same : (p : Place) → (seen step_of step_in step_parts).read p ≡ steps.read p
step_same p = bind_assoc (step_kinds.read p) (λ k. turned (a_step k.0) ((step_rests k.0).read k.1)) (λ x. Ok (step_of x.0, x.1)) ∙ bind_same (step_kinds.read p) _ (λ k. (marks (is_end k.0)).read k.1 >>= λ u. behind_mark k.0 u.1) (λ k. step_rest_in k.0 ((marks (is_end k.0)).read k.1))

pub steps_lawful : Lawful steps
steps_lawful = same_lawful (seen step_of step_in step_parts) steps.read step_same (seen_lawful step_of step_in step_parts step_there step_back (tagged_lawful step_kinds step_rests step_kinds_lawful step_rests_lawful))

step_long : (o : WireOp) → 0 < length (steps.spell (Some o))
unfolding number
step_long o = omega arith

multis_lawful : Lawful (untils steps)
multis_lawful = untils_lawful steps step_long steps_lawful

-- ---- requests

held_at_end : (k : Kind) → LawfulAtEnd (held_forms k)
held_at_end (kinds.Op k) = at_end (op_forms k) (op_forms_lawful k)
held_at_end (kinds.Look l) = at_end watcheds watcheds_lawful
held_at_end kinds.GetAcl = at_end texts texts_lawful
held_at_end kinds.SetAcl = at_end acl_settings acl_settings_lawful
held_at_end kinds.Sync = at_end texts texts_lawful
held_at_end kinds.Ping = at_end nothing nothing_lawful
held_at_end kinds.Multi = at_end (untils steps) multis_lawful
held_at_end kinds.Auth = at_end showings showings_lawful
held_at_end kinds.SetWatches = at_end watches watches_lawful
held_at_end kinds.CloseSession = at_end nothing nothing_lawful
held_at_end (kinds.Other z) = remains_at_end

abbrev ask_to : (k : Kind) × Held k → WireAsk
ask_to t = ask_of t.0 t.1

abbrev ask_from : WireAsk → (k : Kind) × Held k
ask_from a = (ask_kind a, ask_held a)

ask_there : (k : Kind) (h : Held k) → ask_from (ask_of k h) ≡ (k, h)
ask_there (kinds.Op op_kinds.Create) h = refl
ask_there (kinds.Op op_kinds.Create2) h = refl
ask_there (kinds.Op op_kinds.Delete) h = refl
ask_there (kinds.Op op_kinds.SetData) h = refl
ask_there (kinds.Op op_kinds.Check) h = refl
ask_there (kinds.Look looks.Exists) h = refl
ask_there (kinds.Look looks.GetData) h = refl
ask_there (kinds.Look looks.GetChildren) h = refl
ask_there (kinds.Look looks.GetChildren2) h = refl
ask_there kinds.GetAcl h = refl
ask_there kinds.SetAcl h = refl
ask_there kinds.Sync h = refl
ask_there kinds.Ping h = refl
ask_there kinds.Multi h = refl
ask_there kinds.Auth h = refl
ask_there kinds.SetWatches h = refl
ask_there kinds.CloseSession h = refl
ask_there (kinds.Other z) h = refl

ask_back : (a : WireAsk) → ask_to (ask_from a) ≡ a
ask_back (ask.Create path bytes acl flags) = refl
ask_back (ask.Create2 path bytes acl flags) = refl
ask_back (ask.Delete path version) = refl
ask_back (ask.Exists path watch) = refl
ask_back (ask.GetData path watch) = refl
ask_back (ask.SetData path bytes version) = refl
ask_back (ask.GetAcl path) = refl
ask_back (ask.SetAcl path acl version) = refl
ask_back (ask.GetChildren path watch) = refl
ask_back (ask.GetChildren2 path watch) = refl
ask_back (ask.Sync path) = refl
ask_back ask.Ping = refl
ask_back (ask.Check path version) = refl
ask_back (ask.Multi ops) = refl
ask_back (ask.Auth kind scheme auth) = refl
ask_back (ask.SetWatches zxid contents exist child) = refl
ask_back ask.CloseSession = refl
ask_back (ask.Other kind rest) = refl

abbrev an_ask : (k : Kind) → Held k → (k : Kind) × Held k
an_ask k h = (k, h)

chain_ask : (k : Kind) (r : Result (Held k × Place) JuteFail) → turned ask_to (turned (an_ask k) r) ≡ turned (ask_of k) r
chain_ask k (Ok h) = refl
chain_ask k (Err e) = refl

chain_ask_op : (k : OpKind) (r : Result (OpHeld k × Place) JuteFail) → turned (ask_of (kinds.Op k)) r ≡ turned ask_of_op (turned (op_of k) r)
chain_ask_op k (Ok h) = refl
chain_ask_op k (Err e) = refl

ask_at_is : (k : Kind) (q : Place) → turned (ask_of k) ((held_forms k).read q) ≡ ask_at k q
ask_at_is (kinds.Op k) q = chain_ask_op k ((op_forms k).read q) ∙ ap (λ (r : Result (WireOp × Place) JuteFail). turned ask_of_op r) (op_at_is k q)
ask_at_is (kinds.Look l) q = refl
ask_at_is kinds.GetAcl q = refl
ask_at_is kinds.SetAcl q = refl
ask_at_is kinds.Sync q = refl
ask_at_is kinds.Ping q = refl
ask_at_is kinds.Multi q = refl
ask_at_is kinds.Auth q = refl
ask_at_is kinds.SetWatches q = refl
ask_at_is kinds.CloseSession q = refl
ask_at_is (kinds.Other z) q = refl

ask_same : (p : Place) → (seen ask_to ask_from ask_parts).read p ≡ asks.read p
ask_same p = bind_assoc (kind_forms.read p) (λ k. turned (an_ask k.0) ((held_forms k.0).read k.1)) (λ x. Ok (ask_to x.0, x.1)) ∙ bind_same (kind_forms.read p) _ (λ k. ask_at k.0 k.1) (λ k. chain_ask k.0 ((held_forms k.0).read k.1) ∙ ask_at_is k.0 k.1)

asks_at_end : LawfulAtEnd asks
asks_at_end = same_at_end (seen ask_to ask_from ask_parts) asks.read ask_same (seen_at_end ask_to ask_from ask_parts (λ t. ask_there t.0 t.1) ask_back (tagged_at_end kind_forms held_forms kinds_lawful held_at_end))

requests_at_end : LawfulAtEnd requests
requests_at_end = seen_at_end _ _ (ints ⊗ asks) (λ _. refl) (λ _. refl) (both_at_end ints asks ints_lawful asks_at_end)

pub request_packets_lawful : Lawful (packets requests)
request_packets_lawful = packets_lawful requests requests_at_end

pub request_packets_at_end : LawfulAtEnd (packets requests)
request_packets_at_end = at_end (packets requests) request_packets_lawful
