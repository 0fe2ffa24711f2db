-- Which requests are answered -6.
use Rattle.std.proofs.Common.{◌≡◌, ℕ, Bool, true, false, not, List, Option, Some, None, refl}
use Rattle.std.specs.Prelude.{if◌then◌else◌}
use Rattle.std.specs.FinMap as map
use Rattle.kp_model.specs.declared.node.Node.{Node}
use Rattle.kp_model.specs.declared.read.ReadReply.{ReadReply}
use Rattle.kp_model.specs.declared.read.ReadReply.TheVariants as told
use Rattle.kp_model.specs.Errors.{bad_arguments, no_node, no_auth}
use Rattle.kp_model.specs.Path.{is_well_formed}
use Rattle.kp_model.specs.Reads.{looked, shown_to, may_see, may_read, may_read_acl, read_answer}
use Rattle.kp_model.specs.State.{Nodes}
use Rattle.kp_model.specs.Touched.{ids_of}
use Rattle.kp_ask.specs.Answers.{told_to}
use Rattle.kp_ask.specs.Asks.{command, question}
use Rattle.kp_ask.specs.Given.{given}
use Rattle.kp_wire.specs.declared.request.WireAsk.{WireAsk}
use Rattle.kp_wire.specs.declared.request.WireAsk.TheVariants as ask
use Rattle.kp_step.specs.Answers.{state_answer}
use Rattle.kp_step.specs.Unknown.{is_unimplemented, UnknownIsUnimplemented}
use Rattle.kp_step.proofs.Tables.{no}

-- the code is another
abbrev IsOther : WireAsk → ReadReply → Type 0
IsOther a r = is_unimplemented (told_to a r) ≡ false

abbrev ErrsOther : WireAsk → Type 0
ErrsOther a = IsOther a (told.Err bad_arguments) × IsOther a (told.Err no_node) × IsOther a (told.Err no_auth)

errs_other : (a : WireAsk) → ErrsOther a
unfolding told_to
errs_other a = (refl, refl, refl)

picked : (P : ReadReply → Type 0) (b : Bool) (x y : ReadReply) → P x → P y → P (if b then x else y)
picked P true x y p q = p
picked P false x y p q = q

shown_other : (a : WireAsk) (o : Option Node) (may : Node → Bool) (shown : Node → ReadReply) → ((n : Node) → IsOther a (shown n)) → IsOther a (shown_to o may shown)
shown_other a None may shown h = (errs_other a).1
shown_other a (Some n) may shown h = picked (IsOther a) (may n) (shown n) (told.Err no_auth) (h n) (errs_other a).2

looked_other : (a : WireAsk) (nodes : Nodes) (path : List ℕ) (may : Node → Bool) (shown : Node → ReadReply) → ((n : Node) → IsOther a (shown n)) → IsOther a (looked nodes path may shown)
looked_other a nodes path may shown h = picked (IsOther a) (not (is_well_formed path)) (told.Err bad_arguments) (shown_to (map.get nodes path) may shown) (errs_other a).0 (shown_other a (map.get nodes path) may shown h)

pub unknown_is_unimplemented : UnknownIsUnimplemented
unfolding state_answer read_answer question command told_to
unknown_is_unimplemented s session k ws (ask.Create path bytes acl flags) h = no true h refl
unknown_is_unimplemented s session k ws (ask.Create2 path bytes acl flags) h = no true h refl
unknown_is_unimplemented s session k ws (ask.Delete path version) h = no true h refl
unknown_is_unimplemented s session k ws (ask.Exists path watch) h = looked_other (ask.Exists path watch) s.nodes (given path) may_see _ (λ n. refl)
unknown_is_unimplemented s session k ws (ask.GetData path watch) h = looked_other (ask.GetData path watch) s.nodes (given path) (may_read (ids_of s session)) _ (λ n. refl)
unknown_is_unimplemented s session k ws (ask.SetData path bytes version) h = no true h refl
unknown_is_unimplemented s session k ws (ask.GetAcl path) h = looked_other (ask.GetAcl path) s.nodes (given path) (may_read_acl (ids_of s session)) _ (λ n. refl)
unknown_is_unimplemented s session k ws (ask.SetAcl path acl version) h = no true h refl
unknown_is_unimplemented s session k ws (ask.GetChildren path watch) h = looked_other (ask.GetChildren path watch) s.nodes (given path) (may_read (ids_of s session)) _ (λ n. refl)
unknown_is_unimplemented s session k ws (ask.GetChildren2 path watch) h = looked_other (ask.GetChildren2 path watch) s.nodes (given path) (may_read (ids_of s session)) _ (λ n. refl)
unknown_is_unimplemented s session k ws (ask.Sync path) h = no true h refl
unknown_is_unimplemented s session k ws ask.Ping h = refl
unknown_is_unimplemented s session k ws (ask.Check path version) h = no true h refl
unknown_is_unimplemented s session k ws (ask.Multi ops) h = no true h refl
unknown_is_unimplemented s session k ws (ask.Auth number scheme auth) h = no true h refl
unknown_is_unimplemented s session k ws (ask.SetWatches since contents exist child) h = refl
unknown_is_unimplemented s session k ws ask.CloseSession h = no true h refl
unknown_is_unimplemented s session k ws (ask.Other number rest) h = refl
