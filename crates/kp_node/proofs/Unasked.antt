-- Only what asks for a session is answered a new one.
use Rattle.std.proofs.Common.{◌≡◌, ℕ, Bool, true, false, not, cond, ◌+◌, List, [], ◌∷◌, ◌++◌, length, Option, Some, None, refl}
use Rattle.std.specs.Prelude.{ℤ, ◌==◌, ◌&&◌, unwrap_or}
use Rattle.std.specs.FinMap as map
use Rattle.kp_model.specs.State.{State, Nodes}
use Rattle.kp_model.specs.Step.{Outcome, replies, unless, error_of, op_reply, failure, stop_at, made_reply, changed_reply, changed as renewed, with_data, with_acl, with_seq, new_node, grown, made_path, owner_of, shown_id, create_fails, delete_fails, version_fails, set_acl_fails, act_on, multi, act, created, deleted, set, set_acl, shows, closed, expired, written_by, take_body, apply}
use Rattle.kp_model.specs.Path.{is_well_formed}
use Rattle.kp_model.specs.declared.node.Acl.{Acl}
use Rattle.kp_model.specs.declared.node.Node.{Node}
use Rattle.kp_model.specs.Errors.{bad_arguments}
use Rattle.kp_model.specs.Fixed.{fixed}
use Rattle.kp_model.specs.Rights as right
use Rattle.kp_model.specs.declared.reply.Reply.TheVariants as reply
use Rattle.kp_model.specs.declared.session.Session.{Session}
use Rattle.kp_model.specs.LogEntry.{LogEntry}
use Rattle.kp_model.specs.declared.entry.Body.{Body}
use Rattle.kp_model.specs.declared.entry.Body.TheVariants as body
use Rattle.kp_model.specs.declared.reply.OpReply.{OpReply}
use Rattle.kp_model.specs.declared.reply.Event.{Event}
use Rattle.kp_model.specs.declared.command.Op.{Op}
use Rattle.kp_model.specs.declared.command.Cmd.{Cmd}
use Rattle.kp_model.specs.declared.command.Cmd.TheVariants as cmd
use Rattle.kp_node.specs.Forgetting.{opens}
use Rattle.kp_node.specs.Welcoming.{asks_session}
use Rattle.kp_node.proofs.Maps.{no}

abbrev OpensNone : Outcome → Type 0
OpensNone o = opens o.reply ≡ false

either : (b : Bool) (x y : Outcome) → OpensNone x → OpensNone y → OpensNone (cond b x y)
either true x y p q = p
either false x y p q = q

refused : (o : Option ℤ) (s : State) (x : Outcome) → OpensNone x → OpensNone (unless o s x)
refused None s x h = h
refused (Some e) s x h = refl

chosen : (o : Option ℤ) (failed : ℤ → Outcome) (rest : Outcome) → ((e : ℤ) → OpensNone (failed e)) → OpensNone rest → OpensNone (stop_at o failed rest)
chosen None failed rest f r = r
chosen (Some e) failed rest f r = f e

made : (nodes : Nodes) (path : List ℕ) (n : Node) (b : Bool) → opens (made_reply nodes path n b) ≡ false
made nodes path n true = refl
made nodes path n false = refl

changed : (nodes : Nodes) (path : List ℕ) (o : Option Node) → opens (changed_reply nodes path o) ≡ false
changed nodes path None = refl
changed nodes path (Some n) = refl

all_acted : (old s : State) (session : ℕ) (ids : List (List ℕ)) (i t : ℕ) (answers : List OpReply) (events : List Event) (ops : List Op) → OpensNone (multi old s session ids i t answers events ops)
unfolding multi
all_acted old s session ids i t answers events [] = refl
all_acted old s session ids i t answers events (o ∷ ops) = chosen (error_of (act_on s session ids i t o).reply) (λ code. replies old (failure (length answers) code (length ops))) _ (λ _. refl)
    (all_acted old (act_on s session ids i t o).state session ids i t (answers ++ op_reply (act_on s session ids i t o).reply ∷ []) (events ++ (act_on s session ids i t o).events) ops)

shown : (s : State) (session : ℕ) (o : Option (List ℕ)) → OpensNone (shows s session o)
shown s session None = refl
shown s session (Some id) = refl

set_opens : (s : State) (i t : ℕ) (path bytes : List ℕ) → OpensNone (set s i t path bytes)
unfolding set
set_opens s i t path bytes = let nodes = renewed (with_data i t bytes) path (map.get s.nodes path) s.nodes in changed nodes path (map.get nodes path)

set_acl_opens : (s : State) (path : List ℕ) (acl : List Acl) → OpensNone (set_acl s path acl)
unfolding set_acl
set_acl_opens s path acl = let nodes = renewed (with_acl acl) path (map.get s.nodes path) s.nodes in changed nodes path (map.get nodes path)

create_opens : (s : State) (i t : ℕ) (path bytes : List ℕ) (acl : List Acl) (owner : ℕ) (b : Bool) → OpensNone (created s i t path bytes acl owner b)
unfolding created
create_opens s i t path bytes acl owner b = made (grown s.nodes i t path bytes acl owner) path (new_node i t bytes acl owner) b

acted : (s : State) (session : ℕ) (ids : List (List ℕ)) (i t : ℕ) (c : Cmd) → OpensNone (act s session ids i t c)
unfolding act deleted closed
acted s session ids i t (cmd.Create path bytes acl flags stat) =
    refused (create_fails s.nodes ids (made_path s.nodes path flags) flags acl) s (created s i t (made_path s.nodes path flags) bytes (unwrap_or (fixed ids acl) []) (owner_of session flags) stat)
    (create_opens s i t (made_path s.nodes path flags) bytes (unwrap_or (fixed ids acl) []) (owner_of session flags) stat)
acted s session ids i t (cmd.Delete path version) = refused (delete_fails s.nodes ids path version) s (deleted s i path) refl
acted s session ids i t (cmd.SetData path bytes version) = refused (version_fails s.nodes ids right.write path version) s (set s i t path bytes) (set_opens s i t path bytes)
acted s session ids i t (cmd.SetAcl path acl version) = refused (set_acl_fails s.nodes ids path acl version) s (set_acl s path (unwrap_or (fixed ids acl) [])) (set_acl_opens s path (unwrap_or (fixed ids acl) []))
acted s session ids i t (cmd.Check path version) = refused (version_fails s.nodes ids right.read path version) s (replies s reply.Done) refl
acted s session ids i t (cmd.Auth scheme auth) = shown s session (shown_id scheme auth)
acted s session ids i t (cmd.Multi ops) = all_acted s s session ids i t [] [] ops
acted s session ids i t (cmd.Sync path) = either (is_well_formed path) (replies s (reply.Path path)) (replies s (reply.Err bad_arguments)) refl refl
acted s session ids i t cmd.CloseSession = refl

written : (o : Option Session) (s : State) (i t session epoch seq : ℕ) (c : Cmd) → OpensNone (written_by o s i t session epoch seq c)
written None s i t session epoch seq c = refl
written (Some x) s i t session epoch seq c = either (not (epoch == x.epoch && seq == x.seq + 1)) (replies s reply.Stale) (act (record s { sessions = map.insert s.sessions session (with_seq seq x) }) session x.ids i t c) refl
    (acted (record s { sessions = map.insert s.sessions session (with_seq seq x) }) session x.ids i t c)

expires : (o : Option Session) (s : State) (i session : ℕ) → OpensNone (expired o s i session)
unfolding closed
expires None s i session = refl
expires (Some x) s i session = refl

taken : (s : State) (i t : ℕ) (b : Body) → asks_session b ≡ false → OpensNone (take_body s i t b)
unfolding take_body
taken s i t body.Noop h = refl
taken s i t (body.OpenSession timeout passwd origin) h = no true h refl
taken s i t (body.Attach session passwd origin) h = no true h refl
taken s i t (body.Expire session) h = expires (map.get s.sessions session) s i session
taken s i t (body.Write session epoch seq c) h = written (map.get s.sessions session) s i t session epoch seq c

pub opens_none : (s : State) (e : LogEntry) → asks_session e.body ≡ false → opens (apply s e).reply ≡ false
unfolding apply
opens_none s e h = taken (record s { applied = s.applied + 1 }) (s.applied + 1) e.time e.body h
