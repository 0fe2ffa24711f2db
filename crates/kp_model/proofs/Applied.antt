-- Each entry raises the applied index by one, whatever it is.
use Rattle.std.proofs.Common.{◌≡◌, ℕ, ◌+◌, Bool, true, false, not, ◌||◌, cond, List, [], ◌∷◌, ◌++◌, length, Option, Some, None, refl, ◌∙◌, arith}
use Rattle.std.specs.Prelude.{ℤ, nat_le}
use Rattle.std.specs.Str.{bytes_eq}
use Rattle.kp_model.specs.State.{State, is_held}
use Rattle.kp_model.specs.Step.{Outcome, replies, unless, error_of, op_reply, failure, stop_at, act_on, multi, act, created, deleted, set, set_acl, shows, closed, opened, joined, attached_to, expired, written_by, take_body, apply}
use Rattle.kp_model.specs.Path.{is_well_formed}
use Rattle.kp_model.specs.Store.{after}
use Rattle.kp_model.specs.declared.session.Session.{Session}
use Rattle.kp_model.specs.declared.session.Origin.{Origin}
use Rattle.kp_model.specs.LogEntry.{LogEntry}
use Rattle.kp_model.specs.declared.entry.Body.{Body}
use Rattle.kp_model.specs.declared.entry.Body.TheVariants as body
use Rattle.kp_model.specs.declared.reply.OpReply.{OpReply}
use Rattle.kp_model.specs.declared.reply.Event.{Event}
use Rattle.kp_model.specs.declared.command.Op.{Op}
use Rattle.kp_model.specs.declared.command.Op.TheVariants as op
use Rattle.kp_model.specs.declared.command.Cmd.{Cmd}
use Rattle.kp_model.specs.declared.command.Cmd.TheVariants as cmd

-- of two outcomes that have the same applied index, either has it
either : (b : Bool) (x y : Outcome) (n : ℕ) → x.state.applied ≡ n → y.state.applied ≡ n → (cond b x y).state.applied ≡ n
either true x y n p q = p
either false x y n p q = q

-- an error changes nothing
refused : (o : Option ℤ) (s : State) (x : Outcome) → x.state.applied ≡ s.applied → (unless o s x).state.applied ≡ s.applied
refused None s x h = h
refused (Some e) s x h = refl

-- where an error ends a multi, or else the rest is taken
chosen_index : (o : Option ℤ) (failed : ℤ → Outcome) (rest : Outcome) (n : ℕ) → ((e : ℤ) → (failed e).state.applied ≡ n) → rest.state.applied ≡ n
    → (stop_at o failed rest).state.applied ≡ n
chosen_index None failed rest n f r = r
chosen_index (Some e) failed rest n f r = f e

pub acted_on : (s : State) (session : ℕ) (ids : List (List ℕ)) (i t : ℕ) (o : Op) → (act_on s session ids i t o).state.applied ≡ s.applied
unfolding created deleted set
acted_on s session ids i t (op.Create path bytes acl flags stat) = refused _ s _ refl
acted_on s session ids i t (op.Delete path version) = refused _ s _ refl
acted_on s session ids i t (op.SetData path bytes version) = refused _ s _ refl
acted_on s session ids i t (op.Check path version) = refused _ s _ refl

-- a multi
all_acted : (old s : State) (session : ℕ) (ids : List (List ℕ)) (i t : ℕ) (answers : List OpReply) (events : List Event) (ops : List Op)
    → s.applied ≡ old.applied → (multi old s session ids i t answers events ops).state.applied ≡ old.applied
unfolding multi
all_acted old s session ids i t answers events [] same = same
all_acted old s session ids i t answers events (o ∷ ops) same =
    chosen_index (error_of (act_on s session ids i t o).reply) (λ code. replies old (failure (length answers) code (length ops))) _ old.applied (λ _. refl)
    (all_acted old (act_on s session ids i t o).state session ids i t (answers ++ op_reply (act_on s session ids i t o).reply ∷ []) (events ++ (act_on s session ids i t o).events) ops (acted_on s session ids i t o ∙ same))

shown : (s : State) (session : ℕ) (o : Option (List ℕ)) → (shows s session o).state.applied ≡ s.applied
shown s session None = refl
shown s session (Some id) = refl

-- a command leaves the index alone
acted : (s : State) (session : ℕ) (ids : List (List ℕ)) (i t : ℕ) (c : Cmd) → (act s session ids i t c).state.applied ≡ s.applied
unfolding act created deleted set set_acl closed
acted s session ids i t (cmd.Create path bytes acl flags stat) = refused _ s _ refl
acted s session ids i t (cmd.Delete path version) = refused _ s _ refl
acted s session ids i t (cmd.SetData path bytes version) = refused _ s _ refl
acted s session ids i t (cmd.SetAcl path acl version) = refused _ s _ refl
acted s session ids i t (cmd.Check path version) = refused _ s _ refl
acted s session ids i t (cmd.Auth scheme auth) = shown s session _
acted s session ids i t (cmd.Multi ops) = all_acted s s session ids i t [] [] ops refl
acted s session ids i t (cmd.Sync path) = either (is_well_formed path) _ _ s.applied refl refl
acted s session ids i t cmd.CloseSession = refl

opens : (s : State) (timeout : ℕ) (passwd : List ℕ) (origin : Origin) → (opened s timeout passwd origin).state.applied ≡ s.applied
unfolding opened
opens s timeout passwd origin = either _ _ _ s.applied refl refl

written : (o : Option Session) (s : State) (i t session epoch seq : ℕ) (c : Cmd) → (written_by o s i t session epoch seq c).state.applied ≡ s.applied
written None s i t session epoch seq c = refl
written (Some x) s i t session epoch seq c = either _ _ _ s.applied refl (acted _ session _ _ _ c)

joins : (x : Session) (s : State) (session : ℕ) (origin : Origin) → (joined x s session origin).state.applied ≡ s.applied
joins x s session origin = either (is_held s.sessions origin || nat_le 4611686018427387904 x.epoch) _ _ s.applied refl refl

attaches : (o : Option Session) (s : State) (session : ℕ) (passwd : List ℕ) (origin : Origin) → (attached_to o s session passwd origin).state.applied ≡ s.applied
attaches None s session passwd origin = refl
attaches (Some x) s session passwd origin = either (not (bytes_eq x.passwd passwd)) _ _ s.applied refl (joins x s session origin)

expires : (o : Option Session) (s : State) (i session : ℕ) → (expired o s i session).state.applied ≡ s.applied
unfolding closed
expires None s i session = refl
expires (Some x) s i session = refl

-- a body leaves the index alone, which the entry has raised before
taken : (s : State) (i t : ℕ) (b : Body) → (take_body s i t b).state.applied ≡ s.applied
unfolding take_body
taken s i t body.Noop = refl
taken s i t (body.OpenSession timeout passwd origin) = opens s timeout passwd origin
taken s i t (body.Attach session passwd origin) = attaches _ s session passwd origin
taken s i t (body.Expire session) = expires _ s i session
taken s i t (body.Write session epoch seq c) = written _ s i t session epoch seq c

pub applied-apply : (s : State) (e : LogEntry) → (apply s e).state.applied ≡ s.applied + 1
unfolding apply
applied-apply s e = taken _ _ _ e.body

pub applied-after : (s : State) (es : List LogEntry) → (after s es).applied ≡ s.applied + length es
unfolding after
applied-after s [] = omega arith
applied-after s (e ∷ es) = applied-after (apply s e).state es ∙ omega (arith, applied-apply s e)
