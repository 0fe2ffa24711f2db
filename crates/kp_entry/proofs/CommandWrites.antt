-- What a command's kind and its fields add.
use Rattle.std.proofs.Common.{◌≡◌, ℕ, List, Some, Result, Ok, Err, refl, sym, subst}
use Rattle.std.specs.Prelude.{OnOk}
use Rattle.kp_jute.specs.Form.{Wrote}
use Rattle.kp_model.specs.declared.memory.NoMemory.{NoMemory}
use Rattle.kp_model.specs.declared.command.Op.{Op}
use Rattle.kp_model.specs.declared.command.Cmd.{Cmd}
use Rattle.kp_model.specs.declared.command.Cmd.TheVariants as cmd
use Rattle.kp_entry.specs.declared.kinds.OpKind.{OpKind}
use Rattle.kp_entry.specs.declared.kinds.OpKind.TheVariants as op_kind
use Rattle.kp_entry.specs.declared.kinds.CmdKind.{CmdKind}
use Rattle.kp_entry.specs.declared.kinds.CmdKind.TheVariants as cmd_kind
use Rattle.kp_entry.specs.Fields.{u8s, kind_in}
use Rattle.kp_entry.specs.Commands.{op_kinds, op_number, op_fields, op_from, ops, cmd_kinds, cmd_number, cmd_fields, cmd_from, cmds}
use Rattle.kp_entry.proofs.Writes.{kind_written, unit_written}

op_known : (k : OpKind) → kind_in op_kinds op_number (op_number k) ≡ Some k
op_known op_kind.Create = refl
op_known op_kind.Delete = refl
op_known op_kind.SetData = refl
op_known op_kind.Check = refl

cmd_known : (k : CmdKind) → kind_in cmd_kinds cmd_number (cmd_number k) ≡ Some k
cmd_known (cmd_kind.Op op_kind.Create) = refl
cmd_known (cmd_kind.Op op_kind.Delete) = refl
cmd_known (cmd_kind.Op op_kind.SetData) = refl
cmd_known (cmd_kind.Op op_kind.Check) = refl
cmd_known cmd_kind.SetAcl = refl
cmd_known cmd_kind.Auth = refl
cmd_known cmd_kind.Multi = refl
cmd_known cmd_kind.Sync = refl
cmd_known cmd_kind.CloseSession = refl

op_written : (o : Op) (r : Result (Unit {0}) NoMemory) (a b c : List ℕ) → Wrote u8s (op_number (op_from o).0) a b → OnOk r (Wrote (op_fields (op_from o).0) (op_from o).1 b c) → OnOk r (Wrote ops o a c)
op_written o (Ok u) a b c p q = let w = kind_written op_kinds op_number op_fields (op_from o) (Ok u) a b c (op_known (op_from o).0) p q in record { fits = w.fits; added = w.added }
op_written o (Err e) a b c p q = tt

cmd_written : (o : Cmd) (r : Result (Unit {0}) NoMemory) (a b c : List ℕ) → Wrote u8s (cmd_number (cmd_from o).0) a b → OnOk r (Wrote (cmd_fields (cmd_from o).0) (cmd_from o).1 b c) → OnOk r (Wrote cmds o a c)
cmd_written o (Ok u) a b c p q = let w = kind_written cmd_kinds cmd_number cmd_fields (cmd_from o) (Ok u) a b c (cmd_known (cmd_from o).0) p q in record { fits = w.fits; added = w.added }
cmd_written o (Err e) a b c p q = tt

pub close_written : (r : Result (Unit {0}) NoMemory) (a b : List ℕ) → OnOk r (Wrote u8s 9 a b) → OnOk r (Wrote cmds cmd.CloseSession a b)
close_written (Ok u) a b p = cmd_written cmd.CloseSession (Ok u) a b b p (unit_written b)
close_written (Err e) a b p = tt

pub op_put : (o v : Op) → o ≡ v → (r : Result (Unit {0}) NoMemory) (a b c : List ℕ) → Wrote u8s (op_number (op_from v).0) a b → OnOk r (Wrote (op_fields (op_from v).0) (op_from v).1 b c) → OnOk r (Wrote ops o a c)
op_put o v is r a b c p q = subst (λ (x : Op). OnOk r (Wrote ops x a c)) (sym is) (op_written v r a b c p q)

pub cmd_put : (o v : Cmd) → o ≡ v → (r : Result (Unit {0}) NoMemory) (a b c : List ℕ) → Wrote u8s (cmd_number (cmd_from v).0) a b → OnOk r (Wrote (cmd_fields (cmd_from v).0) (cmd_from v).1 b c) → OnOk r (Wrote cmds o a c)
cmd_put o v is r a b c p q = subst (λ (x : Cmd). OnOk r (Wrote cmds x a c)) (sym is) (cmd_written v r a b c p q)
