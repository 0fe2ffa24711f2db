-- An entry comes too late exactly where a leader would not have taken its body.
use Rattle.std.proofs.Common.{◌≡◌, ℕ, ◌+◌, ◌==◌, Bool, true, false, not, ◌&&◌, ◌||◌, cond, List, [], ◌∷◌, ◌++◌, length, Option, Some, None, refl, sym}
use Rattle.std.specs.Prelude.{ℤ, nat_le, is_some, unwrap_or}
use Rattle.std.specs.Ordering.{int_eq}
use Rattle.std.specs.Str.{bytes_eq}
use Rattle.std.specs.FinMap as map
use Rattle.kp_model.specs.Errors.{bad_arguments, no_auth, bad_version, no_children_for_ephemerals, node_exists, not_empty, session_expired}
use Rattle.kp_model.specs.Fixed.{fixed}
use Rattle.kp_model.specs.Path.{root, parent, is_well_formed}
use Rattle.kp_model.specs.Rights as right
use Rattle.kp_model.specs.Rights.{is_allowed}
use Rattle.kp_model.specs.State.{State, Nodes, children, is_held}
use Rattle.kp_model.specs.Step.{Outcome, replies, unless, error_of, op_reply, failure, stop_at, act_on, multi, act, created, deleted, set, set_acl, shows, closed, opened, attached_to, expired, written_by, take_body, apply, create_fails, place_fails, parent_fails, list_fails, delete_fails, removal_fails, may_delete, version_fails, node_fails, set_acl_fails, owner_fails, is_version, changed_reply, made_path}
use Rattle.kp_model.specs.Limits.{last_number}
use Rattle.kp_model.specs.Taken.{would_take, may_join, may_attach, is_next, is_noop, is_stale, is_expired, is_late}
use Rattle.kp_model.specs.LogEntry.{LogEntry}
use Rattle.kp_model.specs.declared.node.Acl.{Acl}
use Rattle.kp_model.specs.declared.node.Node.{Node}
use Rattle.kp_model.specs.declared.session.Session.{Session}
use Rattle.kp_model.specs.declared.session.Origin.{Origin}
use Rattle.kp_model.specs.declared.entry.Body.{Body}
use Rattle.kp_model.specs.declared.entry.Body.TheVariants as body
use Rattle.kp_model.specs.declared.reply.Reply.{Reply}
use Rattle.kp_model.specs.declared.reply.Reply.TheVariants as reply
use Rattle.kp_model.specs.declared.reply.OpReply.{OpReply}
use Rattle.kp_model.specs.declared.reply.Event.{Event}
use Rattle.kp_model.specs.declared.command.Op.{Op}
use Rattle.kp_model.specs.declared.command.Op.TheVariants as op
use Rattle.kp_model.specs.declared.command.Cmd.{Cmd}
use Rattle.kp_model.specs.declared.command.Cmd.TheVariants as cmd

-- ---- a command is never answered stale or -112

-- an error that isn't -112, or none
abbrev is_other : Option ℤ → Bool
is_other None = true
is_other (Some code) = not (int_eq code session_expired)

-- a reply that is neither
abbrev is_timely : Reply → Bool
is_timely r = not (is_stale r || is_expired r)

record IsOther (o : Option ℤ) : Type 0 where
  pub other : is_other o ≡ true

record IsTimely (r : Reply) : Type 0 where
  pub timely : is_timely r ≡ true

either_error : (b : Bool) (x y : Option ℤ) → IsOther x → IsOther y → IsOther (cond b x y)
either_error true x y p q = p
either_error false x y p q = q

either_reply : (b : Bool) (x y : Reply) → IsTimely x → IsTimely y → IsTimely (cond b x y)
either_reply true x y p q = p
either_reply false x y p q = q

either_timely : (b : Bool) (x y : Outcome) → IsTimely x.reply → IsTimely y.reply → IsTimely (cond b x y).reply
either_timely true x y p q = p
either_timely false x y p q = q

refused_timely : (o : Option ℤ) (s : State) (x : Outcome) → IsOther o → IsTimely x.reply → IsTimely (unless o s x).reply
refused_timely None s x p q = q
refused_timely (Some e) s x p q = record { timely = p.other }

parent_other : (ids : List (List ℕ)) (up there : Option Node) → IsOther (parent_fails ids up there)
parent_other ids None there = record { other = refl }
parent_other ids (Some up) there =
    either_error (not (is_allowed ids up.acl right.create)) (Some no_auth) _ (record { other = refl }) (either_error (not (up.owner == 0)) (Some no_children_for_ephemerals) _ (record { other = refl }) (either_error (is_some there) (Some node_exists) None (record { other = refl }) (record { other = refl })))

list_other : (kept : Option (List Acl)) (next : Option ℤ) → IsOther next → IsOther (list_fails kept next)
list_other None next p = record { other = refl }
list_other (Some kept) next p = p

create_other : (nodes : Nodes) (ids : List (List ℕ)) (path : List ℕ) (flags : ℕ) (acl : List Acl) → IsOther (create_fails nodes ids path flags acl)
unfolding create_fails
create_other nodes ids path flags acl =
    either_error (not (is_well_formed path)) (Some bad_arguments) _ (record { other = refl }) (either_error (not (nat_le flags 3)) (Some bad_arguments) _ (record { other = refl })
    (list_other (fixed ids acl) (place_fails nodes ids path) (either_error (bytes_eq path root) (Some node_exists) _ (record { other = refl }) (parent_other ids (map.get nodes (parent path)) (map.get nodes path)))))

removal_other : (nodes : Nodes) (ids : List (List ℕ)) (path : List ℕ) (version : ℕ) (o : Option Node) → IsOther (removal_fails nodes ids path version o)
removal_other nodes ids path version None = record { other = refl }
removal_other nodes ids path version (Some n) =
    either_error (not (may_delete (map.get nodes (parent path)) ids)) (Some no_auth) _ (record { other = refl }) (either_error (not (is_version version n.version)) (Some bad_version) _ (record { other = refl }) (either_error (length (children nodes path) == 0) None (Some not_empty) (record { other = refl }) (record { other = refl })))

delete_other : (nodes : Nodes) (ids : List (List ℕ)) (path : List ℕ) (version : ℕ) → IsOther (delete_fails nodes ids path version)
unfolding delete_fails
delete_other nodes ids path version =
    either_error (not (is_well_formed path)) (Some bad_arguments) _ (record { other = refl }) (either_error (bytes_eq path root) (Some bad_arguments) _ (record { other = refl }) (removal_other nodes ids path version (map.get nodes path)))

node_other : (ids : List (List ℕ)) (perm version : ℕ) (o : Option Node) → IsOther (node_fails ids perm version o)
node_other ids perm version None = record { other = refl }
node_other ids perm version (Some n) = either_error (not (is_allowed ids n.acl perm)) (Some no_auth) _ (record { other = refl }) (either_error (not (is_version version n.version)) (Some bad_version) None (record { other = refl }) (record { other = refl }))

version_other : (nodes : Nodes) (ids : List (List ℕ)) (perm : ℕ) (path : List ℕ) (version : ℕ) → IsOther (version_fails nodes ids perm path version)
unfolding version_fails
version_other nodes ids perm path version = either_error (not (is_well_formed path)) (Some bad_arguments) _ (record { other = refl }) (node_other ids perm version (map.get nodes path))

owner_other : (ids : List (List ℕ)) (version : ℕ) (o : Option Node) → IsOther (owner_fails ids version o)
owner_other ids version None = record { other = refl }
owner_other ids version (Some n) = either_error (not (is_allowed ids n.acl right.admin)) (Some no_auth) _ (record { other = refl }) (either_error (not (is_version version n.aversion)) (Some bad_version) None (record { other = refl }) (record { other = refl }))

acl_other : (nodes : Nodes) (ids : List (List ℕ)) (path : List ℕ) (acl : List Acl) (version : ℕ) → IsOther (set_acl_fails nodes ids path acl version)
unfolding set_acl_fails
acl_other nodes ids path acl version = either_error (not (is_well_formed path)) (Some bad_arguments) _ (record { other = refl }) (list_other (fixed ids acl) _ (owner_other ids version (map.get nodes path)))

changed_timely : (nodes : Nodes) (path : List ℕ) (o : Option Node) → IsTimely (changed_reply nodes path o)
changed_timely nodes path None = record { timely = refl }
changed_timely nodes path (Some n) = record { timely = refl }

acted_on : (s : State) (session : ℕ) (ids : List (List ℕ)) (i t : ℕ) (o : Op) → IsTimely (act_on s session ids i t o).reply
unfolding created deleted set
acted_on s session ids i t (op.Create path bytes acl flags with_stat) =
    refused_timely _ s _ (create_other s.nodes ids (made_path s.nodes path flags) flags acl) (either_reply with_stat (reply.PathStat (made_path s.nodes path flags) _) (reply.Path (made_path s.nodes path flags)) (record { timely = refl }) (record { timely = refl }))
acted_on s session ids i t (op.Delete path version) = refused_timely _ s _ (delete_other s.nodes ids path version) (record { timely = refl })
acted_on s session ids i t (op.SetData path bytes version) =
    refused_timely _ s (set s i t path bytes) (version_other s.nodes ids right.write path version) (changed_timely (set s i t path bytes).state.nodes path (map.get (set s i t path bytes).state.nodes path))
acted_on s session ids i t (op.Check path version) = refused_timely _ s _ (version_other s.nodes ids right.read path version) (record { timely = refl })

chosen_timely : (o : Option ℤ) (failed : ℤ → Outcome) (rest : Outcome) → ((e : ℤ) → IsTimely (failed e).reply) → IsTimely rest.reply
    → IsTimely (stop_at o failed rest).reply
chosen_timely None failed rest f r = r
chosen_timely (Some e) failed rest f r = f e

all_acted : (old s : State) (session : ℕ) (ids : List (List ℕ)) (i t : ℕ) (answers : List OpReply) (events : List Event) (ops : List Op)
    → IsTimely (multi old s session ids i t answers events ops).reply
unfolding multi
all_acted old s session ids i t answers events [] = record { timely = refl }
all_acted old s session ids i t answers events (o ∷ ops) =
    chosen_timely (error_of (act_on s session ids i t o).reply) (λ code. replies old (failure (length answers) code (length ops))) _ (λ _. record { timely = refl })
    (all_acted old (act_on s session ids i t o).state session ids i t (answers ++ op_reply (act_on s session ids i t o).reply ∷ []) (events ++ (act_on s session ids i t o).events) ops)

shown_timely : (s : State) (session : ℕ) (o : Option (List ℕ)) → IsTimely (shows s session o).reply
shown_timely s session None = record { timely = refl }
shown_timely s session (Some id) = record { timely = refl }

acted : (s : State) (session : ℕ) (ids : List (List ℕ)) (i t : ℕ) (c : Cmd) → IsTimely (act s session ids i t c).reply
unfolding act set_acl closed
acted s session ids i t (cmd.Create path bytes acl flags stat) = acted_on s session ids i t (op.Create path bytes acl flags stat)
acted s session ids i t (cmd.Delete path version) = acted_on s session ids i t (op.Delete path version)
acted s session ids i t (cmd.SetData path bytes version) = acted_on s session ids i t (op.SetData path bytes version)
acted s session ids i t (cmd.SetAcl path acl version) = refused_timely _ s (set_acl s path (unwrap_or (fixed ids acl) [])) (acl_other s.nodes ids path acl version) (changed_timely (set_acl s path (unwrap_or (fixed ids acl) [])).state.nodes path (map.get (set_acl s path (unwrap_or (fixed ids acl) [])).state.nodes path))
acted s session ids i t (cmd.Check path version) = acted_on s session ids i t (op.Check path version)
acted s session ids i t (cmd.Auth scheme auth) = shown_timely s session _
acted s session ids i t (cmd.Multi ops) = all_acted s s session ids i t [] [] ops
acted s session ids i t (cmd.Sync path) = either_timely (is_well_formed path) (replies s (reply.Path path)) (replies s (reply.Err bad_arguments)) (record { timely = refl }) (record { timely = refl })
acted s session ids i t cmd.CloseSession = record { timely = refl }

-- ---- bodies

-- what comes late where the test fails, and timely where it holds
where_next : (b : Bool) (x y : Outcome) → is_timely x.reply ≡ false → is_timely y.reply ≡ true → b ≡ is_timely (cond (not b) x y).reply
where_next true x y p q = sym q
where_next false x y p q = sym p

-- what is stale where the test holds
where_not : (b : Bool) (x y : Outcome) → is_timely x.reply ≡ false → is_timely y.reply ≡ true → not b ≡ is_timely (cond b x y).reply
where_not true x y p q = sym p
where_not false x y p q = sym q

-- the same of an attach, which may be told -112
attach_not : (b : Bool) (x y : Outcome) → is_stale x.reply ≡ true → is_stale y.reply ≡ false → not b ≡ not (is_stale (cond b x y).reply)
attach_not true x y p q = λ i. not (sym p i)
attach_not false x y p q = λ i. not (sym q i)

attach_known : (b : Bool) (m : Bool) (x y : Outcome) → is_stale x.reply ≡ false → m ≡ not (is_stale y.reply) → (not b || m) ≡ not (is_stale (cond (not b) x y).reply)
attach_known true m x y p q = q
attach_known false m x y p q = λ i. not (sym p i)

attached_late : (o : Option Session) (s : State) (session : ℕ) (passwd : List ℕ) (origin : Origin)
    → may_attach s passwd origin o ≡ not (is_stale (attached_to o s session passwd origin).reply)
attached_late None s session passwd origin = refl
attached_late (Some x) s session passwd origin =
    attach_known (bytes_eq x.passwd passwd) (may_join s origin x) _ _ refl (attach_not (is_held s.sessions origin || nat_le last_number x.epoch) _ _ refl refl)

expired_late : (o : Option Session) (s : State) (i session : ℕ) → is_some o ≡ is_timely (expired o s i session).reply
unfolding closed
expired_late None s i session = refl
expired_late (Some x) s i session = refl

written_late : (o : Option Session) (s : State) (i t session epoch seq : ℕ) (c : Cmd) → is_next epoch seq o ≡ is_timely (written_by o s i t session epoch seq c).reply
written_late None s i t session epoch seq c = refl
written_late (Some x) s i t session epoch seq c = where_next (epoch == x.epoch && seq == x.seq + 1) _ _ refl (acted _ session x.ids i t c).timely

taken_late : (s : State) (i t : ℕ) (b : Body) → would_take s b ≡ (not (is_noop b) && not (is_late b (take_body (record s { applied = i }) i t b).reply))
unfolding would_take take_body opened
taken_late s i t body.Noop = refl
taken_late s i t (body.OpenSession timeout passwd origin) = where_not (is_held s.sessions origin || nat_le last_number s.next) _ _ refl refl
taken_late s i t (body.Attach session passwd origin) = attached_late (map.get s.sessions session) (record s { applied = i }) session passwd origin
taken_late s i t (body.Expire session) = expired_late (map.get s.sessions session) (record s { applied = i }) i session
taken_late s i t (body.Write session epoch seq c) = written_late (map.get s.sessions session) (record s { applied = i }) i t session epoch seq c

pub apply_late : (s : State) (e : LogEntry) → would_take s e.body ≡ (not (is_noop e.body) && not (is_late e.body (apply s e).reply))
unfolding apply
apply_late s e = taken_late s (s.applied + 1) e.time e.body
