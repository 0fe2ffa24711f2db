-- Commands leave the epochs, the holders and the next number of sessions alone.
use Rattle.std.proofs.Common.{◌≡◌, ℕ, ◌==◌, Bool, true, false, cond, List, [], ◌∷◌, ◌++◌, length, Option, Some, None, refl, ap, sym, subst, ◌∙◌, true≢false}
use Rattle.std.proofs.lemmas.Bool.{eq-eqb}
use Rattle.std.specs.Prelude.{ℤ, unwrap_or}
use Rattle.std.specs.List.{list_any}
use Rattle.std.specs.Str.{bytes_eq}
use Rattle.std.specs.Ordering.{nat_cmp, eq_by_cmp}
use Rattle.std.specs.Cmp.{nat_cmp_total}
use Rattle.std.specs.FinMap as map
use Rattle.std.specs.FinMap.{nat_cmp-IsAntisymmetric}
use Rattle.kp_model.specs.declared.session.Session.{Session}
use Rattle.kp_model.specs.declared.reply.OpReply.{OpReply}
use Rattle.kp_model.specs.declared.reply.Event.{Event}
use Rattle.kp_model.specs.declared.command.Op.{Op}
use Rattle.kp_model.specs.declared.command.Op.TheVariants as op
use Rattle.kp_model.specs.declared.command.Cmd.{Cmd}
use Rattle.kp_model.specs.declared.command.Cmd.TheVariants as cmd
use Rattle.kp_model.specs.Path.{is_well_formed}
use Rattle.kp_model.specs.Fixed.{fixed}
use Rattle.kp_model.specs.State.{State, Sessions}
use Rattle.kp_model.specs.Step.{Outcome, replies, unless, created, deleted, set, set_acl_fails, set_acl, act_on, error_of, op_reply, failure, stop_at, multi, shown_id, with_id, renewed, shows, closed, act}
use Rattle.kp_model.proofs.Maps.{get_inserted, equal}
use Rattle.kp_model.proofs.Holders.{act_on_sessions}

-- ---- the map

pub at_key : (m : Sessions) (k : ℕ) (v : Session) (q : ℕ) → q ≡ k → map.get (map.insert m k v) q ≡ Some v
at_key m k v q e = ap (map.get (map.insert m k v)) e ∙ get_inserted nat_cmp_total nat_cmp-IsAntisymmetric m k v

off_by : (b : Bool) (x y : Option Session) → (b ≡ true → ⊥) → cond b x y ≡ y
off_by true x y h = absurd (h refl)
off_by false x y h = refl

pub off_key : (m : Sessions) (k : ℕ) (v : Session) (q : ℕ) → (q ≡ k → ⊥) → map.get (map.insert m k v) q ≡ map.get m q
off_key m k v q h = map.get-insert nat_cmp_total m k v q ∙ off_by (eq_by_cmp nat_cmp q k) (Some v) (map.get m q) (λ e. h (nat_cmp-IsAntisymmetric q k (equal (nat_cmp q k) e)))

pub other : (k q : ℕ) → (k == q) ≡ false → q ≡ k → ⊥
other k q e h = true≢false (sym (eq-eqb k q (sym h)) ∙ e)

-- ---- a session remains

-- it is gone, or it has the epoch and the holder that it had
abbrev pub Remains : Option Session → Option Session → Type 0
Remains o None = Unit {0}
Remains None (Some y) = ⊥
Remains (Some x) (Some y) = (y.epoch ≡ x.epoch) × (y.holder ≡ x.holder)

abbrev pub AllRemain : Sessions → Sessions → Type 0
AllRemain m n = (id : ℕ) → Remains (map.get m id) (map.get n id)

pub same_remains : (o : Option Session) → Remains o o
same_remains None = tt
same_remains (Some x) = (refl, refl)

then_remains : (a b c : Option Session) → Remains a b → Remains b c → Remains a c
then_remains a b None f g = tt
then_remains a None (Some z) f g = absurd g
then_remains None (Some y) (Some z) f g = absurd f
then_remains (Some x) (Some y) (Some z) f g = (g.0 ∙ f.0, g.1 ∙ f.1)

pub all_remain : (m n : Sessions) → n ≡ m → AllRemain m n
all_remain m n e id = subst (λ z. Remains (map.get m id) (map.get z id)) (sym e) (same_remains (map.get m id))

set_at : (b : Bool) (o : Option Session) (x v : Session) → (b ≡ true → o ≡ Some x) → v.epoch ≡ x.epoch → v.holder ≡ x.holder → Remains o (cond b (Some v) o)
set_at true o x v there e h = subst (λ z. Remains z (Some v)) (sym (there refl)) (e, h)
set_at false o x v there e h = same_remains o

pub set_remain : (m : Sessions) (k : ℕ) (x v : Session) → map.get m k ≡ Some x → v.epoch ≡ x.epoch → v.holder ≡ x.holder → AllRemain m (map.insert m k v)
set_remain m k x v there e h id = subst (Remains (map.get m id)) (sym (map.get-insert nat_cmp_total m k v id))
    (set_at (eq_by_cmp nat_cmp id k) (map.get m id) x v (λ b. ap (map.get m) (nat_cmp-IsAntisymmetric id k (equal (nat_cmp id k) b)) ∙ there) e h)

removed_at : (b : Bool) (o : Option Session) → Remains o (cond b None o)
removed_at true o = tt
removed_at false o = same_remains o

removed_remain : (m : Sessions) (k : ℕ) → AllRemain m (map.remove m k)
removed_remain m k id = subst (Remains (map.get m id)) (sym (map.get-remove nat_cmp_total m k id)) (removed_at (eq_by_cmp nat_cmp id k) (map.get m id))

-- ---- commands

-- what an outcome leaves of a state
pub record Leaves (s : State) (o : Outcome) : Type 0 where
  pub sessions : AllRemain s.sessions o.state.sessions
  pub next : o.state.next ≡ s.next

leaves_same : (s : State) (o : Outcome) → o.state.sessions ≡ s.sessions → o.state.next ≡ s.next → Leaves s o
leaves_same s o e f = record { sessions = all_remain s.sessions o.state.sessions e; next = f }

pub then_leaves : (s t : State) (o : Outcome) → AllRemain s.sessions t.sessions → t.next ≡ s.next → Leaves t o → Leaves s o
then_leaves s t o r e h = record { sessions = λ id. then_remains (map.get s.sessions id) (map.get t.sessions id) (map.get o.state.sessions id) (r id) (h.sessions id); next = h.next ∙ e }

either_leaves : (s : State) (b : Bool) (x y : Outcome) → Leaves s x → Leaves s y → Leaves s (cond b x y)
either_leaves s true x y p q = p
either_leaves s false x y p q = q

unless_leaves : (e : Option ℤ) (s : State) (o : Outcome) → Leaves s o → Leaves s (unless e s o)
unless_leaves None s o h = h
unless_leaves (Some e) s o h = leaves_same s (unless (Some e) s o) refl refl

unless_next : (e : Option ℤ) (s : State) (o : Outcome) → o.state.next ≡ s.next → (unless e s o).state.next ≡ s.next
unless_next None s o h = h
unless_next (Some e) s o h = refl

act_on_next : (s : State) (session : ℕ) (ids : List (List ℕ)) (i t : ℕ) (o : Op) → (act_on s session ids i t o).state.next ≡ s.next
unfolding created deleted set
act_on_next s session ids i t (op.Create path bytes acl flags with_stat) = unless_next _ s _ refl
act_on_next s session ids i t (op.Delete path version) = unless_next _ s _ refl
act_on_next s session ids i t (op.SetData path bytes version) = unless_next _ s _ refl
act_on_next s session ids i t (op.Check path version) = unless_next _ s _ refl

op_leaves : (s : State) (session : ℕ) (ids : List (List ℕ)) (i t : ℕ) (o : Op) → Leaves s (act_on s session ids i t o)
op_leaves s session ids i t o = leaves_same s (act_on s session ids i t o) (act_on_sessions s session ids i t o) (act_on_next s session ids i t o)

stop_leaves : (s : State) (o : Option ℤ) (failed : ℤ → Outcome) (rest : Outcome) → ((e : ℤ) → Leaves s (failed e)) → Leaves s rest → Leaves s (stop_at o failed rest)
stop_leaves s None failed rest f r = r
stop_leaves s (Some e) failed rest f r = f e

multi_leaves : (old s : State) (session : ℕ) (ids : List (List ℕ)) (i t : ℕ) (answers : List OpReply) (events : List Event) (ops : List Op)
    → AllRemain old.sessions s.sessions → s.next ≡ old.next → Leaves old (multi old s session ids i t answers events ops)
unfolding multi
multi_leaves old s session ids i t answers events [] same next = record { sessions = same; next = next }
multi_leaves old s session ids i t answers events (o ∷ ops) same next =
    let done = act_on s session ids i t o in
    let h = then_leaves old s done same next (op_leaves s session ids i t o) in
    stop_leaves old (error_of done.reply) (λ code. replies old (failure (length answers) code (length ops))) _ (λ _. leaves_same old _ refl refl)
    (multi_leaves old done.state session ids i t (answers ++ op_reply done.reply ∷ []) (events ++ done.events) ops h.sessions h.next)

id_epoch : (b : Bool) (x y : Session) → y.epoch ≡ x.epoch → (cond b x y).epoch ≡ x.epoch
id_epoch true x y e = refl
id_epoch false x y e = e

id_holder : (b : Bool) (x y : Session) → y.holder ≡ x.holder → (cond b x y).holder ≡ x.holder
id_holder true x y e = refl
id_holder false x y e = e

renewed_remain : (id : List ℕ) (session : ℕ) (m : Sessions) (o : Option Session) → map.get m session ≡ o → AllRemain m (renewed (with_id id) session o m)
renewed_remain id session m None found = all_remain m m refl
renewed_remain id session m (Some x) found = set_remain m session x (with_id id x) found (id_epoch (list_any (bytes_eq id) x.ids) x _ refl) (id_holder (list_any (bytes_eq id) x.ids) x _ refl)

shows_leaves : (s : State) (session : ℕ) (o : Option (List ℕ)) → Leaves s (shows s session o)
shows_leaves s session None = leaves_same s (shows s session None) refl refl
shows_leaves s session (Some id) = record { sessions = renewed_remain id session s.sessions (map.get s.sessions session) refl; next = refl }

pub closed_leaves : (s : State) (i session : ℕ) → Leaves s (closed s i session)
unfolding closed
closed_leaves s i session = record { sessions = removed_remain s.sessions session; next = refl }

pub act_leaves : (s : State) (session : ℕ) (ids : List (List ℕ)) (i t : ℕ) (c : Cmd) → Leaves s (act s session ids i t c)
unfolding act set_acl
act_leaves s session ids i t (cmd.Create path bytes acl flags with_stat) = op_leaves s session ids i t (op.Create path bytes acl flags with_stat)
act_leaves s session ids i t (cmd.Delete path version) = op_leaves s session ids i t (op.Delete path version)
act_leaves s session ids i t (cmd.SetData path bytes version) = op_leaves s session ids i t (op.SetData path bytes version)
act_leaves s session ids i t (cmd.SetAcl path acl version) = unless_leaves (set_acl_fails s.nodes ids path acl version) s (set_acl s path (unwrap_or (fixed ids acl) [])) (leaves_same s _ refl refl)
act_leaves s session ids i t (cmd.Check path version) = op_leaves s session ids i t (op.Check path version)
act_leaves s session ids i t (cmd.Auth scheme auth) = shows_leaves s session (shown_id scheme auth)
act_leaves s session ids i t (cmd.Multi ops) = multi_leaves s s session ids i t [] [] ops (all_remain s.sessions s.sessions refl) refl
act_leaves s session ids i t (cmd.Sync path) = either_leaves s (is_well_formed path) _ _ (leaves_same s _ refl refl) (leaves_same s _ refl refl)
act_leaves s session ids i t cmd.CloseSession = closed_leaves s i session
