-- Settling a connection answers its requests in their order, each on the state, and leaves it at rest.
use Rattle.std.proofs.Common.{◌≡◌, ℕ, Bool, true, false, ◌&&◌, ◌||◌, not, List, [], ◌∷◌, ◌++◌, Option, Some, None, is_some, refl, ap, sym, subst, ◌∙◌, append-nil}
use Rattle.std.specs.Prelude.{if◌then◌else◌}
use Rattle.std.specs.List.{AllByRecursion}
use Rattle.kp_model.specs.State.{State}
use Rattle.kp_model.specs.declared.command.Cmd.{Cmd}
use Rattle.kp_ask.specs.Asks.{command, question}
use Rattle.kp_model.specs.declared.read.ReadCmd.{ReadCmd}
use Rattle.kp_wire.specs.declared.request.WireAsk.{WireAsk}
use Rattle.kp_wire.specs.declared.request.WireAsk.TheVariants as ask
use Rattle.kp_wire.specs.declared.reply.WireReply.{WireReply}
use Rattle.kp_watch.specs.declared.watch.Watch.{Watch}
use Rattle.kp_conn.specs.declared.phase.Phase.{Phase}
use Rattle.kp_conn.specs.declared.waiting.Mark.{Mark}
use Rattle.kp_conn.specs.declared.waiting.Waiting.{Waiting}
use Rattle.kp_conn.specs.Connection.{Connection, closed, is_over}
use Rattle.kp_step.specs.Choices.{is_out, less}
use Rattle.kp_step.specs.Answers.{Answer, Cause, by_state, other_answer, look_answer, answer_of, answer_by, unmarked, state_answer}
use Rattle.kp_step.specs.Settling.{Told, Settled, settled, settled_so, settled_by, telling, told_by, put_answer, with_queue, is_end, is_at_rest, session_in}
use Rattle.kp_step.specs.Runs.{IsPart, requests_of, answered_of, IsFoundOn, IsToldOn}
use Rattle.kp_step.proofs.Tables.{no}
use Rattle.kp_step.proofs.Parts.{part_none, part_same, part_both}
use Rattle.kp_step.proofs.Moving.{IsProper, Moves, is_live, is_ending, is_bound, first_false, first_true}

-- what holds of the three ways in which a front is met holds of all
module _ (P : Settled → Type 0) where
  pub by_answer : (o : Option Answer) (b : Bool) (stays lost : Settled) (goes : Answer → Settled) → (o ≡ None → P stays) → P lost → ((a : Answer) → o ≡ Some a → P (goes a)) → P (settled_by o b stays lost goes)
  by_answer None b stays lost goes x y z = x refl
  by_answer (Some a) true stays lost goes x y z = y
  by_answer (Some a) false stays lost goes x y z = z a refl

-- ---- at rest

unanswered : (ws : List Watch) (r : Option WireReply) (m : Option Mark) (read : Answer) → answer_by ws r m read ≡ None → (is_some m && not (is_some r)) ≡ true
unanswered ws None None read h = no false refl (sym (ap is_some h))
unanswered ws None (Some m) read h = refl
unanswered ws (Some r) m read h = no false refl (sym (ap is_some h))

abbrev pub Rests : Settled → Type 0
Rests r = is_at_rest r.connection.queue ≡ true

ends_resting : (b : Bool) (t : Told) (x y : Settled) → Rests x → Rests y → Rests (telling t (if b then x else y))
ends_resting true t x y p q = p
ends_resting false t x y p q = q

module _ (s : State) (k : ℕ) where
  pub settled-rests : (n : Option ℕ) (ws : List Watch) (c : Connection) (q : List Waiting) → Rests (settled s k n ws c q)
  unfolding settled answer_of
  settled-rests n ws c [] = refl
  settled-rests n ws c (w ∷ q) = by_answer Rests _ (is_out n) _ _ _ (unanswered ws w.reply w.mark _) refl
      (λ a e. ends_resting (is_end w) (told_by c.phase s.applied w.request a.reply a.cause) _ _ refl (settled-rests (less n) a.watches (put_answer s.applied w.request a c) q))

-- ---- on the state

-- what is no write is answered by the state
other_cause : (s : State) (k : ℕ) (ws : List Watch) (a : WireAsk) → (other_answer s k ws a).cause ≡ by_state
other_cause s k ws (ask.Create path bytes acl flags) = refl
other_cause s k ws (ask.Create2 path bytes acl flags) = refl
other_cause s k ws (ask.Delete path version) = refl
other_cause s k ws (ask.Exists path watch) = refl
other_cause s k ws (ask.GetData path watch) = refl
other_cause s k ws (ask.SetData path bytes version) = refl
other_cause s k ws (ask.GetAcl path) = refl
other_cause s k ws (ask.SetAcl path acl version) = refl
other_cause s k ws (ask.GetChildren path watch) = refl
other_cause s k ws (ask.GetChildren2 path watch) = refl
other_cause s k ws (ask.Sync path) = refl
other_cause s k ws ask.Ping = refl
other_cause s k ws (ask.Check path version) = refl
other_cause s k ws (ask.Multi ops) = refl
other_cause s k ws (ask.Auth number scheme auth) = refl
other_cause s k ws (ask.SetWatches since contents exist child) = refl
other_cause s k ws ask.CloseSession = refl
other_cause s k ws (ask.Other number rest) = refl

look_cause : (s : State) (session k : ℕ) (ws : List Watch) (a : WireAsk) (o : Option ReadCmd) → (look_answer s session k ws a o).cause ≡ by_state
look_cause s session k ws a None = other_cause s k ws a
look_cause s session k ws a (Some q) = refl

pub state_cause : (s : State) (session k : ℕ) (ws : List Watch) (a : WireAsk) → (state_answer s session k ws a).cause ≡ by_state
unfolding state_answer
state_cause s session k ws a = look_cause s session k ws a (question a)

module _ (s : State) (k : ℕ) (p : Phase) where
  abbrev pub FrontIs : Waiting → Option Answer → Type 0
  FrontIs w None = Unit {0}
  FrontIs w (Some a) = IsToldOn s k (told_by p s.applied w.request a.reply a.cause)

  front_found : (w : Waiting) (ws : List Watch) (c : Cause) → by_state ≡ c → is_some (command w.request.ask) ≡ false → IsFoundOn s k (told_by p s.applied w.request (state_answer s (session_in p) k ws w.request.ask).reply c) c
  front_found w ws c e h = subst (λ z. IsFoundOn s k (told_by p s.applied w.request (state_answer s (session_in p) k ws w.request.ask).reply z) z) e (h, ws, refl)

  front_by : (ws : List Watch) (w : Waiting) (r : Option WireReply) (m : Option Mark) (o : Option Cmd) → command w.request.ask ≡ o → FrontIs w (answer_by ws r m (unmarked ws o (state_answer s (session_in p) k ws w.request.ask)))
  front_by ws w (Some r) m o e = (refl, tt)
  front_by ws w None (Some m) o e = tt
  front_by ws w None None (Some c) e = (refl, (ap is_some e, refl))
  front_by ws w None None None e = (refl, front_found w ws (state_answer s (session_in p) k ws w.request.ask).cause (sym (state_cause s (session_in p) k ws w.request.ask)) (ap is_some e))

  pub front_is : (ws : List Watch) (w : Waiting) (a : Answer) → answer_of s (session_in p) k ws w ≡ Some a → IsToldOn s k (told_by p s.applied w.request a.reply a.cause)
  unfolding answer_of
  front_is ws w a e = subst (FrontIs w) e (front_by ws w w.reply w.mark (command w.request.ask) refl)

-- ---- what is answered in order

abbrev has_some : List Waiting → Bool
has_some [] = false
has_some (w ∷ q) = true

no_cons : {B : Type 0} (w : Waiting) (q : List Waiting) → w ∷ q ≡ [] → B
no_cons w q e = no false refl (sym (ap has_some e))

-- the answers of a queue of a connection in this phase, and what is left of it
record Answers (P : Told → Type 0) (q : List Waiting) (p : Phase) (r : Settled) : Type 0 where
  pub proper : IsProper r.connection
  pub part : IsPart (answered_of r.told ++ requests_of r.connection.queue) (requests_of q)
  pub all : is_over r.connection.phase ≡ false → requests_of q ≡ answered_of r.told ++ requests_of r.connection.queue
  pub over : is_over p ≡ true → is_over r.connection.phase ≡ true
  pub ending : is_ending q ≡ true → is_over r.connection.phase ≡ true
  pub tells : AllByRecursion P r.told

ends_front : (w : Waiting) (q : List Waiting) → is_ending (w ∷ q) ≡ true → is_end w ≡ true
ends_front w [] h = h
ends_front w (v ∷ q) h = no false refl h

-- a front that waits is not the end of a session that was applied
waits_front : (close : Bool) (r : Option WireReply) (m : Option Mark) → (is_some m && not (is_some r)) ≡ true → (close && is_some r) ≡ true → ⊥
waits_front close r None h e = no false refl h
waits_front true None (Some m) h e = no false refl e
waits_front false None (Some m) h e = no false refl e
waits_front close (Some r) (Some m) h e = no false refl h

-- the front is answered, and it is the last, or what is behind it goes on
answers_end : (P : Told → Type 0) (w : Waiting) (q : List Waiting) (p : Phase) (b : Bool) → is_end w ≡ b → (t : Told) (d : Connection) (ws : List Watch) (y : Settled) → t.request ≡ w.request → P t → Answers P q p y
    → Answers P (w ∷ q) p (telling t (if b then settled_so (closed false d) ws else y))
answers_end P w q p true s t d ws y e f h = record {
  proper = λ o. refl;
  part = subst (λ z. IsPart (z ∷ []) (w.request ∷ requests_of q)) (sym e) (part_both w.request [] (requests_of q) (part_none (requests_of q)));
  all = λ o. no true o refl;
  over = λ o. refl;
  ending = λ o. refl;
  tells = (f, tt);
}
answers_end P w q p false s t d ws y e f h = record {
  proper = h.proper;
  part = subst (λ z. IsPart (z ∷ (answered_of y.told ++ requests_of y.connection.queue)) (w.request ∷ requests_of q)) (sym e) (part_both w.request (answered_of y.told ++ requests_of y.connection.queue) (requests_of q) h.part);
  all = λ o i. sym e i ∷ h.all o i;
  over = h.over;
  ending = λ o. no (is_end w) s (ends_front w q o);
  tells = (f, h.tells);
}

module _ (s : State) (k : ℕ) where
  settled-answers : (n : Option ℕ) (ws : List Watch) (c : Connection) (q : List Waiting) → (is_live c.phase ≡ false → q ≡ []) → Answers (λ t. IsToldOn s k t) q c.phase (settled s k n ws c q)
  unfolding settled answer_of
  settled-answers n ws c [] proper = record { proper = λ o. refl; part = refl; all = λ o. refl; over = λ o. o; ending = λ o. no false refl o; tells = tt }
  settled-answers n ws c (w ∷ q) proper = by_answer (Answers (λ t. IsToldOn s k t) (w ∷ q) c.phase) (answer_of s (session_in c.phase) k ws w) (is_out n) (settled_so (with_queue (w ∷ q) c) ws) (settled_so (closed true c) ws) _
      (λ e. record { proper = proper; part = part_same (w.request ∷ requests_of q); all = λ o. refl; over = λ o. o; ending = λ o. absurd (waits_front _ w.reply w.mark (unanswered ws w.reply w.mark _ e) (ends_front w q o)); tells = tt })
      (record { proper = λ o. refl; part = tt; all = λ o. no true o refl; over = λ o. refl; ending = λ o. refl; tells = tt })
      (λ a e. answers_end (λ t. IsToldOn s k t) w q c.phase (is_end w) refl (told_by c.phase s.applied w.request a.reply a.cause) (put_answer s.applied w.request a c) a.watches _ refl (front_is s k c.phase ws w a e)
      (settled-answers (less n) a.watches (put_answer s.applied w.request a c) q (λ o. no_cons w q (proper o))))

  over_by : (c : Connection) (o l : Bool) (r : Settled) → is_over c.phase ≡ o → is_live c.phase ≡ l → Answers (λ t. IsToldOn s k t) c.queue c.phase r → (o || (l && is_ending c.queue)) ≡ true → is_over r.connection.phase ≡ true
  over_by c true l r e f h b = h.over e
  over_by c false true r e f h b = h.ending b
  over_by c false false r e f h b = no false refl b

  pub settled-moves : (n : Option ℕ) (ws : List Watch) (c : Connection) → Moves (λ t. IsToldOn s k t) c (settled s k n ws c c.queue).told [] (settled s k n ws c c.queue).connection
  unfolding is_bound
  settled-moves n ws c proper = let r = settled s k n ws c c.queue in let h = settled-answers n ws c c.queue proper in record {
    proper = h.proper;
    part = subst (IsPart (answered_of r.told ++ requests_of r.connection.queue)) (sym (append-nil (requests_of c.queue))) h.part;
    all = λ o. append-nil (requests_of c.queue) ∙ h.all (first_false (is_over r.connection.phase) _ o);
    bound = λ b. first_true (is_over r.connection.phase) _ (over_by c (is_over c.phase) (is_live c.phase) r refl refl h b);
    tells = h.tells;
  }
