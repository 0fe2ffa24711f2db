-- Commands and entries: each form is lawful, and what that means for bytes that begin with an entry.
use Rattle.std.proofs.Common.{◌≡◌, ℕ, ◌+◌, List, [], ◌++◌, length, Result, Ok, Err, refl, sym, ap, subst, ◌∙◌, arith}
use Rattle.std.proofs.lemmas.List.{append-nil}
use Rattle.std.specs.Prelude.{IfOk}
use Rattle.kp_jute.specs.declared.fault.JuteFail.{JuteFail}
use Rattle.kp_jute.specs.Form.{IsBytes, front, Lawful, Place, Form, tagged}
use Rattle.kp_jute.proofs.Combined.{seen_lawful, ok_is, ◌&◌}
use Rattle.kp_jute.proofs.Cases.{tagged_lawful}
use Rattle.kp_jute.proofs.Numbers.{booleans_lawful}
use Rattle.kp_model.specs.declared.command.Op.{Op}
use Rattle.kp_model.specs.declared.command.Op.TheVariants as op
use Rattle.kp_model.specs.declared.command.Cmd.{Cmd}
use Rattle.kp_model.specs.declared.command.Cmd.TheVariants as cmd
use Rattle.kp_model.specs.declared.entry.Body.{Body}
use Rattle.kp_model.specs.declared.entry.Body.TheVariants as body
use Rattle.kp_model.specs.LogEntry.{LogEntry}
use Rattle.kp_entry.specs.declared.kinds.OpKind.{OpKind}
use Rattle.kp_entry.specs.declared.kinds.OpKind.TheVariants as op_kind
use Rattle.kp_entry.specs.declared.kinds.CmdKind.{CmdKind}
use Rattle.kp_entry.specs.declared.kinds.CmdKind.TheVariants as cmd_kind
use Rattle.kp_entry.specs.declared.kinds.BodyKind.{BodyKind}
use Rattle.kp_entry.specs.declared.kinds.BodyKind.TheVariants as body_kind
use Rattle.kp_entry.specs.declared.fail.EntryFail.{EntryFail}
use Rattle.kp_entry.specs.declared.fail.EntryFail.TheVariants as fail
use Rattle.kp_entry.specs.Fields.{kinds, acls}
use Rattle.kp_entry.specs.Commands.{versioned, op_kinds, op_number, OpFields, op_fields, op_with, op_to, op_from, ops, cmd_kinds, cmd_number, CmdFields, cmd_fields, cmd_with, cmd_to, cmd_from, cmds}
use Rattle.kp_entry.specs.Entries.{body_kinds, body_number, BodyFields, body_fields, body_to, body_from, bodies, entries}
use Rattle.kp_entry.specs.Decoding.{IsRefusedAt, Decodes, BeginsWith, IsEntryOf}
use Rattle.kp_entry.proofs.FieldLaws.{u32s_lawful, numbers_lawful, timeouts_lawful, blobs_lawful, strings_lawful, passwords_lawful, lists_lawful, kinds_lawful, units_lawful, origins_lawful, acls_lawful}

-- ---- operations and commands

versioned_lawful : Lawful versioned
versioned_lawful = strings_lawful & u32s_lawful

op_fields_lawful : (k : OpKind) → Lawful (op_fields k)
op_fields_lawful op_kind.Create = strings_lawful & (blobs_lawful & (lists_lawful acls acls_lawful & (u32s_lawful & booleans_lawful)))
op_fields_lawful op_kind.Delete = versioned_lawful
op_fields_lawful op_kind.SetData = strings_lawful & (blobs_lawful & u32s_lawful)
op_fields_lawful op_kind.Check = versioned_lawful

op_there : (k : OpKind) (t : OpFields k) → op_from (op_with k t) ≡ (k, t)
op_there op_kind.Create t = refl
op_there op_kind.Delete t = refl
op_there op_kind.SetData t = refl
op_there op_kind.Check t = refl

op_back : (o : Op) → op_to (op_from o) ≡ o
op_back (op.Create path bytes acl flags stat) = refl
op_back (op.Delete path version) = refl
op_back (op.SetData path bytes version) = refl
op_back (op.Check path version) = refl

pub ops_lawful : Lawful ops
ops_lawful = seen_lawful op_to op_from (tagged (kinds op_kinds op_number) op_fields) (λ t. op_there t.0 t.1) op_back (tagged_lawful (kinds op_kinds op_number) op_fields (kinds_lawful op_kinds op_number) op_fields_lawful)

cmd_fields_lawful : (k : CmdKind) → Lawful (cmd_fields k)
cmd_fields_lawful (cmd_kind.Op k) = op_fields_lawful k
cmd_fields_lawful cmd_kind.SetAcl = strings_lawful & (lists_lawful acls acls_lawful & u32s_lawful)
cmd_fields_lawful cmd_kind.Auth = strings_lawful & blobs_lawful
cmd_fields_lawful cmd_kind.Multi = lists_lawful ops ops_lawful
cmd_fields_lawful cmd_kind.Sync = strings_lawful
cmd_fields_lawful cmd_kind.CloseSession = units_lawful

cmd_there : (k : CmdKind) (t : CmdFields k) → cmd_from (cmd_with k t) ≡ (k, t)
cmd_there (cmd_kind.Op op_kind.Create) t = refl
cmd_there (cmd_kind.Op op_kind.Delete) t = refl
cmd_there (cmd_kind.Op op_kind.SetData) t = refl
cmd_there (cmd_kind.Op op_kind.Check) t = refl
cmd_there cmd_kind.SetAcl t = refl
cmd_there cmd_kind.Auth t = refl
cmd_there cmd_kind.Multi t = refl
cmd_there cmd_kind.Sync t = refl
cmd_there cmd_kind.CloseSession t = refl

cmd_back : (c : Cmd) → cmd_to (cmd_from c) ≡ c
cmd_back (cmd.Create path bytes acl flags stat) = refl
cmd_back (cmd.Delete path version) = refl
cmd_back (cmd.SetData path bytes version) = refl
cmd_back (cmd.SetAcl path acl version) = refl
cmd_back (cmd.Check path version) = refl
cmd_back (cmd.Auth scheme auth) = refl
cmd_back (cmd.Multi operations) = refl
cmd_back (cmd.Sync path) = refl
cmd_back cmd.CloseSession = refl

pub cmds_lawful : Lawful cmds
cmds_lawful = seen_lawful cmd_to cmd_from (tagged (kinds cmd_kinds cmd_number) cmd_fields) (λ t. cmd_there t.0 t.1) cmd_back (tagged_lawful (kinds cmd_kinds cmd_number) cmd_fields (kinds_lawful cmd_kinds cmd_number) cmd_fields_lawful)

-- ---- entries

body_fields_lawful : (k : BodyKind) → Lawful (body_fields k)
body_fields_lawful body_kind.Noop = units_lawful
body_fields_lawful body_kind.OpenSession = timeouts_lawful & (passwords_lawful & origins_lawful)
body_fields_lawful body_kind.Attach = numbers_lawful & (passwords_lawful & origins_lawful)
body_fields_lawful body_kind.Expire = numbers_lawful
body_fields_lawful body_kind.Write = numbers_lawful & (numbers_lawful & (numbers_lawful & cmds_lawful))

body_there : (t : (k : BodyKind) × BodyFields k) → body_from (body_to t) ≡ t
body_there (body_kind.Noop, t) = refl
body_there (body_kind.OpenSession, t) = refl
body_there (body_kind.Attach, t) = refl
body_there (body_kind.Expire, t) = refl
body_there (body_kind.Write, t) = refl

body_back : (b : Body) → body_to (body_from b) ≡ b
body_back body.Noop = refl
body_back (body.OpenSession timeout passwd origin) = refl
body_back (body.Attach session passwd origin) = refl
body_back (body.Expire session) = refl
body_back (body.Write session epoch seq c) = refl

pub bodies_lawful : Lawful bodies
bodies_lawful = seen_lawful body_to body_from (tagged (kinds body_kinds body_number) body_fields) body_there body_back (tagged_lawful (kinds body_kinds body_number) body_fields (kinds_lawful body_kinds body_number) body_fields_lawful)

pub entries_lawful : Lawful entries
entries_lawful = seen_lawful _ _ _ (λ _. refl) (λ _. refl) (numbers_lawful & (numbers_lawful & bodies_lawful))

-- ---- bytes that begin with a value

-- what is read stands at the beginning, as it is spelled
begins : {A : Type 0} (f : Form A) → Lawful f → (bytes : List ℕ) (v : A) (n : ℕ) (q : Place) → IsBytes bytes → f.read (front 0 bytes) ≡ Ok (v, q) → q.at ≡ n → BeginsWith f bytes v n
begins f lf bytes v n q fits e is =
    let s = lf.takes (front 0 bytes) v q fits e in
    record { fits = s.1; more = q.rest; parts = s.0.parts; len = omega (arith, s.0.moved, is) }

pub is_found : (bytes : List ℕ) (r : Result (LogEntry × ℕ) EntryFail) → IsBytes bytes → Decodes r (entries.read (front 0 bytes)) → IfOk r (λ d. BeginsWith entries bytes d.0 d.1)
is_found bytes (Ok d) fits h = begins entries entries_lawful bytes d.0 d.1 h.0 fits h.1 h.2
is_found bytes (Err e) fits h = tt

only_as : (e : LogEntry) (n : ℕ) (rest : List ℕ) (r : Result (LogEntry × ℕ) EntryFail) (read : Result (LogEntry × Place) JuteFail) → read ≡ Ok (e, front (0 + n) rest) → Decodes r read → IsEntryOf e n r
only_as e n rest (Ok d) read is h =
    let same : (d.0, h.0) ≡ (e, front (0 + n) rest) = ok_is (d.0, h.0) (e, front (0 + n) rest) (sym h.1 ∙ is) in
    (ap (λ (x : LogEntry × Place). x.0) same, omega (arith, h.2, ap (λ (x : LogEntry × Place). x.1.at) same))
only_as e n rest (Err fail.NoMemory) read is h = tt
only_as e n rest (Err (fail.BadEntry at)) read is h = subst (λ (x : Result (LogEntry × Place) JuteFail). IsRefusedAt at x) is h

pub is_only : (e : LogEntry) (more bytes : List ℕ) (r : Result (LogEntry × ℕ) EntryFail) → entries.Fits e → bytes ≡ entries.spell e ++ more → Decodes r (entries.read (front 0 bytes)) → IsEntryOf e (length (entries.spell e)) r
is_only e more bytes r fits parts h = only_as e (length (entries.spell e)) more r (entries.read (front 0 bytes)) (ap (λ (b : List ℕ). entries.read (front 0 b)) parts ∙ entries_lawful.again e 0 more fits) h

-- ---- no spelling begins another

pub no_prefix : {A : Type 0} (f : Form A) → Lawful f → (a b : A) (more : List ℕ) → f.Fits a → f.Fits b → f.spell a ++ more ≡ f.spell b → (a ≡ b) × (more ≡ [])
no_prefix {A} f lf a b more fa fb e =
    let whole : f.spell a ++ more ≡ f.spell b ++ [] = e ∙ sym (append-nil (f.spell b)) in
    let same : (a, front (0 + length (f.spell a)) more) ≡ (b, front (0 + length (f.spell b)) []) = ok_is _ _ (sym (lf.again a 0 more fa) ∙ ap (λ (x : List ℕ). f.read (front 0 x)) whole ∙ lf.again b 0 [] fb) in
    (ap (λ (x : A × Place). x.0) same, ap (λ (x : A × Place). x.1.rest) same)
