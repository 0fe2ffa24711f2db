-- Epochs and running numbers rise by one entry at a time.
use Rattle.std.proofs.Common.{◌≡◌, ◌≤◌, ◌+◌, ℕ, Bool, true, false, cond, not, ◌&&◌, ◌||◌, ◌==◌, List, [], ◌∷◌, ◌++◌, length, Option, Some, None, refl, sym, subst, ◌∙◌, zero-le, arith, eqb-true}
use Rattle.std.specs.Prelude.{ℤ, nat_le, unwrap_or}
use Rattle.std.specs.List.{list_any}
use Rattle.std.specs.Str.{bytes_eq}
use Rattle.std.specs.Ordering.{nat_cmp}
use Rattle.std.specs.FinMap as map
use Rattle.kp_model.specs.LogEntry.{LogEntry}
use Rattle.kp_model.specs.declared.session.Session.{Session}
use Rattle.kp_model.specs.declared.session.Origin.{Origin}
use Rattle.kp_model.specs.declared.entry.Body.{Body}
use Rattle.kp_model.specs.declared.entry.Body.TheVariants as body
use Rattle.kp_model.specs.declared.node.Acl.{Acl}
use Rattle.kp_model.specs.declared.reply.Event.{Event}
use Rattle.kp_model.specs.declared.reply.OpReply.{OpReply}
use Rattle.kp_model.specs.declared.command.Op.{Op}
use Rattle.kp_model.specs.declared.command.Op.TheVariants as op
use Rattle.kp_model.specs.declared.command.Cmd.{Cmd}
use Rattle.kp_model.specs.declared.command.Cmd.TheVariants as cmd
use Rattle.kp_model.specs.State.{State, Sessions, is_held}
use Rattle.kp_model.specs.State as state
use Rattle.kp_model.specs.Step.{Outcome, replies, unless, error_of, op_reply, failure, stop_at, act_on, multi, set_acl, set_acl_fails, shown_id, with_id, renewed, shows, closed, act, opened, new_session, taken_over, joined, attached_to, expired, with_seq, written_by, take_body, apply}
use Rattle.kp_model.specs.Store.{Store, after, last, commit_leaves}
use Rattle.kp_model.proofs.Applied.{applied-apply, applied-after}
use Rattle.std.specs.Cmp.{nat_cmp_total}
use Rattle.std.specs.FinMap.{nat_cmp-IsAntisymmetric}
use Rattle.kp_model.specs.Fixed.{fixed}
use Rattle.kp_model.specs.Path.{is_well_formed}
use Rattle.kp_model.proofs.Holders.{act_on_sessions}
use Rattle.kp_model.proofs.Maps.{each_inserted, left_there, no_value}
use Rattle.kp_top.specs.Paced.{IsPaced}

-- no session has a number above n
abbrev Below : ℕ → Sessions → Type 0
Below n sessions = (id : ℕ) (x : Session) → map.get sessions id ≡ Some x → (x.epoch ≤ n) × (x.seq ≤ n)

weaker : (n : ℕ) (sessions : Sessions) → Below n sessions → Below (n + 1) sessions
weaker n sessions below id x found = let h = below id x found in (omega (arith, h.0), omega (arith, h.1))

either : (n : ℕ) (b : Bool) (x y : Outcome) → Below n x.state.sessions → (b ≡ false → Below n y.state.sessions) → Below n (cond b x y).state.sessions
either n true x y p q = p
either n false x y p q = q refl

either_session : (n : ℕ) (b : Bool) (x y : Session) → (x.epoch ≤ n) × (x.seq ≤ n) → (y.epoch ≤ n) × (y.seq ≤ n) → ((cond b x y).epoch ≤ n) × ((cond b x y).seq ≤ n)
either_session n true x y p q = p
either_session n false x y p q = q

-- one session is set, or goes
with_one : (n : ℕ) (sessions : Sessions) (id : ℕ) (x : Session) → (x.epoch ≤ n) × (x.seq ≤ n) → Below n sessions → Below n (map.insert sessions id x)
with_one n sessions id x small below =
    each_inserted nat_cmp_total nat_cmp-IsAntisymmetric (λ (k : ℕ) (y : Session). (y.epoch ≤ n) × (y.seq ≤ n)) sessions id x small below

without_one : (n : ℕ) (sessions : Sessions) (id : ℕ) → Below n sessions → Below n (map.remove sessions id)
without_one n sessions id below k y found = below k y (left_there nat_cmp_total nat_cmp-IsAntisymmetric sessions id k y found).1

-- an operation and a multi leave the sessions alone
alone : (n : ℕ) (s : State) (o : Outcome) → o.state.sessions ≡ s.sessions → Below n s.sessions → Below n o.state.sessions
alone n s o same below = subst (Below n) (sym same) below

stops : (o : Option ℤ) (failed : ℤ → Outcome) (rest : Outcome) (m : Sessions) → ((e : ℤ) → (failed e).state.sessions ≡ m) → rest.state.sessions ≡ m
    → (stop_at o failed rest).state.sessions ≡ m
stops None failed rest m f r = r
stops (Some e) failed rest m f r = f e

all_alone : (old s : State) (session : ℕ) (ids : List (List ℕ)) (i t : ℕ) (answers : List OpReply) (events : List Event) (ops : List Op)
    → s.sessions ≡ old.sessions → (multi old s session ids i t answers events ops).state.sessions ≡ old.sessions
unfolding multi
all_alone old s session ids i t answers events [] same = same
all_alone old s session ids i t answers events (o ∷ ops) same =
    let done = act_on s session ids i t o in
    stops (error_of done.reply) (λ code. replies old (failure (length answers) code (length ops))) _ old.sessions (λ _. refl)
    (all_alone old done.state session ids i t (answers ++ op_reply done.reply ∷ []) (events ++ done.events) ops (act_on_sessions s session ids i t o ∙ same))

-- setting a list leaves them alone, and so does an error
refused : (o : Option ℤ) (s : State) (x : Outcome) → x.state.sessions ≡ s.sessions → (unless o s x).state.sessions ≡ s.sessions
refused None s x h = h
refused (Some e) s x h = refl

lists : (n : ℕ) (s : State) (path : List ℕ) (acl : List Acl) (e : Option ℤ) → Below n s.sessions → Below n (unless e s (set_acl s path acl)).state.sessions
unfolding set_acl
lists n s path acl e below = alone n s (unless e s (set_acl s path acl)) (refused e s (set_acl s path acl) refl) below

-- an id that is shown leaves the session its numbers
renews : (n : ℕ) (id : List ℕ) (session : ℕ) (m : Sessions) (o : Option Session) → map.get m session ≡ o → Below n m → Below n (renewed (with_id id) session o m)
renews n id session m None found below = below
renews n id session m (Some x) found below =
    with_one n m session (with_id id x) (either_session n (list_any (bytes_eq id) x.ids) x _ (below session x found) (below session x found)) below

shown : (n : ℕ) (s : State) (session : ℕ) (o : Option (List ℕ)) → Below n s.sessions → Below n (shows s session o).state.sessions
shown n s session None below = below
shown n s session (Some id) below = renews n id session s.sessions _ refl below

closes : (n : ℕ) (s : State) (i session : ℕ) → Below n s.sessions → Below n (closed s i session).state.sessions
unfolding closed
closes n s i session below = without_one n s.sessions session below

-- a command raises no number of a session
acted : (n : ℕ) (s : State) (session : ℕ) (ids : List (List ℕ)) (i t : ℕ) (c : Cmd) → Below n s.sessions → Below n (act s session ids i t c).state.sessions
unfolding act
acted n s session ids i t (cmd.Create path bytes acl flags stat) below = alone n s (act_on s session ids i t (op.Create path bytes acl flags stat)) (act_on_sessions s session ids i t (op.Create path bytes acl flags stat)) below
acted n s session ids i t (cmd.Delete path version) below = alone n s (act_on s session ids i t (op.Delete path version)) (act_on_sessions s session ids i t (op.Delete path version)) below
acted n s session ids i t (cmd.SetData path bytes version) below = alone n s (act_on s session ids i t (op.SetData path bytes version)) (act_on_sessions s session ids i t (op.SetData path bytes version)) below
acted n s session ids i t (cmd.SetAcl path acl version) below = lists n s path (unwrap_or (fixed ids acl) []) (set_acl_fails s.nodes ids path acl version) below
acted n s session ids i t (cmd.Check path version) below = alone n s (act_on s session ids i t (op.Check path version)) (act_on_sessions s session ids i t (op.Check path version)) below
acted n s session ids i t (cmd.Auth scheme auth) below = shown n s session (shown_id scheme auth) below
acted n s session ids i t (cmd.Multi ops) below = alone n s (multi s s session ids i t [] [] ops) (all_alone s s session ids i t [] [] ops refl) below
acted n s session ids i t (cmd.Sync path) below = either n (is_well_formed path) _ _ below (λ _. below)
acted n s session ids i t cmd.CloseSession below = closes n s i session below

opens : (n : ℕ) (s : State) (timeout : ℕ) (passwd : List ℕ) (origin : Origin) → Below n s.sessions → Below (n + 1) (opened s timeout passwd origin).state.sessions
unfolding opened
opens n s timeout passwd origin below =
    either (n + 1) (is_held s.sessions origin || nat_le 4611686018427387904 s.next) _ _ (weaker n s.sessions below)
    (λ _. with_one (n + 1) s.sessions s.next (new_session timeout passwd origin) (omega arith, omega arith) (weaker n s.sessions below))

joins : (n : ℕ) (x : Session) (s : State) (session : ℕ) (origin : Origin) → x.epoch ≤ n → Below n s.sessions → Below (n + 1) (joined x s session origin).state.sessions
joins n x s session origin small below =
    either (n + 1) (is_held s.sessions origin || nat_le 4611686018427387904 x.epoch) _ _ (weaker n s.sessions below)
    (λ _. with_one (n + 1) s.sessions session (taken_over origin x) (omega (arith, small), zero-le) (weaker n s.sessions below))

attaches : (n : ℕ) (o : Option Session) (s : State) (session : ℕ) (passwd : List ℕ) (origin : Origin)
    → Below n s.sessions → map.get s.sessions session ≡ o → Below (n + 1) (attached_to o s session passwd origin).state.sessions
attaches n None s session passwd origin below found = weaker n s.sessions below
attaches n (Some x) s session passwd origin below found =
    either (n + 1) (not (bytes_eq x.passwd passwd)) _ _ (weaker n s.sessions below) (λ _. joins n x s session origin (below session x found).0 below)

expires : (n : ℕ) (o : Option Session) (s : State) (i session : ℕ) → Below n s.sessions → Below n (expired o s i session).state.sessions
expires n None s i session below = below
expires n (Some x) s i session below = closes n s i session below

wrong_number : (a b : Bool) → not (a && b) ≡ false → b ≡ true
wrong_number true true e = refl
wrong_number true false e = absurd (cc)
wrong_number false b e = absurd (cc)

writes : (n : ℕ) (o : Option Session) (s : State) (i t session epoch seq : ℕ) (c : Cmd)
    → Below n s.sessions → map.get s.sessions session ≡ o → Below (n + 1) (written_by o s i t session epoch seq c).state.sessions
writes n None s i t session epoch seq c below found = weaker n s.sessions below
writes n (Some x) s i t session epoch seq c below found =
    let old = below session x found in
    either (n + 1) (not (epoch == x.epoch && seq == x.seq + 1)) _ _ (weaker n s.sessions below)
    (λ e. let next : seq ≡ x.seq + 1 = eqb-true seq (x.seq + 1) (wrong_number (epoch == x.epoch) (seq == x.seq + 1) e) in
    acted (n + 1) (record s { sessions = map.insert s.sessions session (with_seq seq x) }) session x.ids i t c
    (with_one (n + 1) s.sessions session (with_seq seq x) (omega (arith, old.0), omega (arith, old.1, next)) (weaker n s.sessions below)))

takes : (n : ℕ) (s : State) (i t : ℕ) (b : Body) → Below n s.sessions → Below (n + 1) (take_body s i t b).state.sessions
unfolding take_body
takes n s i t body.Noop below = weaker n s.sessions below
takes n s i t (body.OpenSession timeout passwd origin) below = opens n s timeout passwd origin below
takes n s i t (body.Attach session passwd origin) below = attaches n _ s session passwd origin below refl
takes n s i t (body.Expire session) below = weaker n _ (expires n _ s i session below)
takes n s i t (body.Write session epoch seq c) below = writes n _ s i t session epoch seq c below refl

pub paced_apply : (s : State) (e : LogEntry) → IsPaced s → IsPaced (apply s e).state
unfolding apply
paced_apply s e paced =
    subst (λ n. Below n (apply s e).state.sessions) (sym (applied-apply s e)) (takes s.applied (record s { applied = s.applied + 1 }) (s.applied + 1) e.time e.body paced)

pub paced_after : (s : State) (es : List LogEntry) → IsPaced s → IsPaced (after s es)
unfolding after
paced_after s [] paced = paced
paced_after s (e ∷ es) paced = paced_after (apply s e).state es (paced_apply s e paced)

-- the sessions of the uncommitted state have no number above the last index
pub paced_latest : (x : Store) → IsPaced x.state → (id : ℕ) (y : Session) → map.get (after x.state x.unapplied).sessions id ≡ Some y → (y.epoch ≤ last x) × (y.seq ≤ last x)
paced_latest x paced id y found =
    let h = paced_after x.state x.unapplied paced id y found in
    (omega (arith, h.0, applied-after x.state x.unapplied), omega (arith, h.1, applied-after x.state x.unapplied))

pub paced_commit : (s : State) (us : List LogEntry) → IsPaced s → IsPaced (commit_leaves s us).state
unfolding commit_leaves
paced_commit s [] paced = paced
paced_commit s (u ∷ us) paced = paced_apply s u paced

pub paced_empty : IsPaced state.empty
unfolding state.empty
paced_empty id x found = absurd (no_value x (sym found ∙ map.get-empty nat_cmp id))
