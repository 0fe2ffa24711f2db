-- What is written field by field is the spelling of the operation or the request.
use Rattle.std.proofs.Common.{ℕ, false, List, ◌++◌, Some, sym, ap, ◌∙◌, append_assoc}
use Rattle.std.proofs.lemmas.List.{append-nil}
use Rattle.kp_jute.specs.Form.{Wrote}
use Rattle.kp_wire.specs.declared.request.WireAsk.{WireAsk}
use Rattle.kp_wire.specs.declared.request.WireAsk.TheVariants as ask
use Rattle.kp_wire.specs.declared.request.WireOp.{WireOp}
use Rattle.kp_wire.specs.declared.request.WireOp.TheVariants as op
use Rattle.kp_wire.specs.Kinds.{kind_forms}
use Rattle.kp_wire.specs.Request.{op_forms, op_kind, op_held, step_kinds, marks, steps, held_forms, ask_kind, ask_held, asks, WroteOp, WroteAsk}

wrote_op : (o : WireOp) (old new : List ℕ) → WroteOp o old new → Wrote (op_forms (op_kind o)) (op_held o) old new
wrote_op (op.Create path bytes acl flags) old new w = w
wrote_op (op.Create2 path bytes acl flags) old new w = w
wrote_op (op.Delete path version) old new w = w
wrote_op (op.SetData path bytes version) old new w = w
wrote_op (op.Check path version) old new w = w

pub step_written : (o : WireOp) (a b c d : List ℕ) → Wrote step_kinds (Some (op_kind o)) a b → Wrote (marks false) tt b c → WroteOp o c d → Wrote steps (Some o) a d
step_written o a b c d kind mark rest =
    let w = wrote_op o c d rest in
    let k = step_kinds.spell (Some (op_kind o)) in
    let m = (marks false).spell tt in
    let f = (op_forms (op_kind o)).spell (op_held o) in
    record {
      fits = (kind.fits, (mark.fits, w.fits));
      added = w.added ∙ ap (λ (u : List ℕ). u ++ f) mark.added ∙ append_assoc b m f ∙ ap (λ (u : List ℕ). u ++ (m ++ f)) kind.added ∙ append_assoc a k (m ++ f);
    }

wrote_ask : (r : WireAsk) (old new : List ℕ) → WroteAsk r old new → Wrote (held_forms (ask_kind r)) (ask_held r) old new
wrote_ask (ask.Create path bytes acl flags) old new w = w
wrote_ask (ask.Create2 path bytes acl flags) old new w = w
wrote_ask (ask.Delete path version) old new w = w
wrote_ask (ask.Exists path watch) old new w = w
wrote_ask (ask.GetData path watch) old new w = w
wrote_ask (ask.SetData path bytes version) old new w = w
wrote_ask (ask.GetAcl path) old new w = w
wrote_ask (ask.SetAcl path acl version) old new w = w
wrote_ask (ask.GetChildren path watch) old new w = w
wrote_ask (ask.GetChildren2 path watch) old new w = w
wrote_ask (ask.Sync path) old new w = w
wrote_ask ask.Ping old new w = record { fits = tt; added = w ∙ sym (append-nil old) }
wrote_ask (ask.Check path version) old new w = w
wrote_ask (ask.Multi ops) old new w = w
wrote_ask (ask.Auth kind scheme auth) old new w = w
wrote_ask (ask.SetWatches zxid contents exist child) old new w = w
wrote_ask ask.CloseSession old new w = record { fits = tt; added = w ∙ sym (append-nil old) }
wrote_ask (ask.Other kind rest) old new w = record { fits = tt; added = w }

pub ask_written : (r : WireAsk) (a b c : List ℕ) → Wrote kind_forms (ask_kind r) a b → WroteAsk r b c → Wrote asks r a c
ask_written r a b c kind rest =
    let w = wrote_ask r b c rest in
    let k = kind_forms.spell (ask_kind r) in
    let f = (held_forms (ask_kind r)).spell (ask_held r) in
    record {
      fits = (kind.fits, w.fits);
      added = w.added ∙ ap (λ (u : List ℕ). u ++ f) kind.added ∙ append_assoc a k f;
    }
