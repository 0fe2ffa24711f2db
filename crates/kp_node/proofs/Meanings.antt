-- What was done at the connection of a session is what the entry means for all connections.
use Rattle.std.proofs.Common.{◌≡◌, ℕ, Bool, true, false, not, ◌&&◌, List, Option, Some, None, refl, ap, sym, subst, ◌∙◌}
use Rattle.std.specs.Prelude.{nat_eq, if◌then◌else◌, ◌==◌}
use Rattle.std.specs.Option.{option_map}
use Rattle.std.specs.FinMap as map
use Rattle.kp_model.specs.declared.command.Cmd.{Cmd}
use Rattle.kp_model.specs.declared.entry.Body.{Body}
use Rattle.kp_model.specs.declared.entry.Body.TheVariants as body
use Rattle.kp_model.specs.declared.reply.Reply.{Reply}
use Rattle.kp_model.specs.declared.reply.Reply.TheVariants as reply
use Rattle.kp_model.specs.declared.session.Origin.{Origin}
use Rattle.kp_model.specs.State.{same_origin}
use Rattle.kp_model.specs.Taken.{is_stale}
use Rattle.kp_seats.specs.Serving.{is_that}
use Rattle.kp_wire.specs.declared.reply.WireReply.{WireReply}
use Rattle.kp_conn.specs.Connection.{Connection}
use Rattle.kp_conn.specs.Queue.{awaited}
use Rattle.kp_step.specs.declared.seat.Seat.{Seat}
use Rattle.kp_step.specs.Choices.{Choices}
use Rattle.kp_step.specs.Node.{Seats}
use Rattle.kp_step.specs.Answers.{by_move, by_end}
use Rattle.kp_step.specs.Settling.{Settled, stays, refused_if}
use Rattle.kp_step.specs.Tables.{Row, row_at, seated}
use Rattle.kp_step.specs.Committing.{is_of, is_in, conn_of, newcomer, replied_to, attached_to, applied_to, written_to, meaning}
use Rattle.kp_node.specs.Telling.{answer_for, replied_by}
use Rattle.kp_node.specs.Meaning.{refused_seat, AreEnded, replied_seat, AreReplied, moved, expired}
use Rattle.kp_node.specs.Informing.{is_epoch, IsAnswerIn, AreMeant}
use Rattle.kp_node.proofs.Found.{found_is_kept}
use Rattle.kp_node.proofs.Maps.{no}

-- a row that leaves each connection as it is
same_seat : (f : Row) (k : ℕ) → ((c : Connection) → (f k c).connection ≡ c) → (o : Option Seat) → o ≡ option_map (row_at f k) o
same_seat f k h None = refl
same_seat f k h (Some s) = ap (λ c. Some (seated s c)) (sym (h s.connection))

-- the same at each seat
each_seat : (f g : Seat → Seat) → ((s : Seat) → f s ≡ g s) → (o : Option Seat) → option_map f o ≡ option_map g o
each_seat f g h None = refl
each_seat f g h (Some s) = ap Some (h s)

module _ (me boot zxid : ℕ) where
  -- what it means where it came in time
  in_time : (ch : Choices) (b : Body) (r : Reply) (k : ℕ) (c : Connection) → is_stale r ≡ false → applied_to ch me boot zxid b r k c ≡ meaning ch me boot zxid b r k c
  unfolding meaning
  in_time ch b r k c h = ap (λ z. if z then stays c else applied_to ch me boot zxid b r k c) (sym h)

  too_late : (ch : Choices) (b : Body) (r : Reply) (k : ℕ) (c : Connection) → is_stale r ≡ true → (meaning ch me boot zxid b r k c).connection ≡ c
  unfolding meaning
  too_late ch b r k c h = ap (λ z. (if z then stays c else applied_to ch me boot zxid b r k c).connection) h

  pub late_means : (b : Body) (r : Reply) (m : Seats) → is_stale r ≡ true → AreMeant me boot zxid b r m m
  late_means b r m h k = (None, λ ch e. same_seat (meaning ch me boot zxid b r) k (λ c. too_late ch b r k c h) (map.get m k))

  -- a body for which connections stay
  nothing_means : (b : Body) (r : Reply) (m : Seats) → ((ch : Choices) (k : ℕ) (c : Connection) → (applied_to ch me boot zxid b r k c).connection ≡ c) → is_stale r ≡ false → AreMeant me boot zxid b r m m
  nothing_means b r m h t k = (None, λ ch e. same_seat (meaning ch me boot zxid b r) k (λ c. ap (λ (z : Settled). z.connection) (sym (in_time ch b r k c t)) ∙ h ch k c) (map.get m k))

  pub noop_means : (r : Reply) (m : Seats) → is_stale r ≡ false → AreMeant me boot zxid body.Noop r m m
  noop_means r m t = nothing_means body.Noop r m (λ ch k c. refl) t

  pub open_means : (timeout : ℕ) (passwd : List ℕ) (o : Origin) (r : Reply) (m : Seats) → is_stale r ≡ false → AreMeant me boot zxid (body.OpenSession timeout passwd o) r m m
  open_means timeout passwd o r m t = nothing_means (body.OpenSession timeout passwd o) r m (λ ch k c. refl) t

  -- ---- an attach

  origin_in : (b : Bool) (n k : ℕ) → (b && nat_eq n k) ≡ is_that (if b then Some n else None) k
  origin_in true n k = refl
  origin_in false n k = refl

  assoc : (a b c : Bool) → (a && (b && c)) ≡ ((a && b) && c)
  assoc true b c = refl
  assoc false b c = refl

  -- the connection of the origin is the newcomer
  pub own : (o : Origin) (k : ℕ) → same_origin o (record { node = me; boot = boot; conn = k }) ≡ is_that (conn_of me boot o) k
  own o k = assoc (o.node == me) (o.boot == boot) (o.conn == k) ∙ origin_in (o.node == me && o.boot == boot) o.conn k

  attach_not : (ch : Choices) (o : Origin) (mine : Origin) (session : ℕ) (r : Reply) (k : ℕ) (c : Connection) → is_epoch r ≡ false → (attached_to ch zxid mine o session r k c).connection ≡ c
  attach_not ch o mine session reply.Stale k c h = refl
  attach_not ch o mine session (reply.Err code) k c h = refl
  attach_not ch o mine session reply.Done k c h = refl
  attach_not ch o mine session (reply.Session id) k c h = refl
  attach_not ch o mine session (reply.Epoch epoch) k c h = no true h refl
  attach_not ch o mine session (reply.Path path) k c h = refl
  attach_not ch o mine session (reply.PathStat path m) k c h = refl
  attach_not ch o mine session (reply.Stat m) k c h = refl
  attach_not ch o mine session (reply.Multi rs) k c h = refl
  attach_not ch o mine session (reply.Failed codes) k c h = refl

  attach_is : (ch : Choices) (o mine : Origin) (session : ℕ) (r : Reply) (k : ℕ) (c : Connection) → is_epoch r ≡ true → attached_to ch zxid mine o session r k c ≡ refused_if (is_of session c.phase && not (same_origin o mine)) (ch.luck k).answers zxid by_move c
  attach_is ch o mine session reply.Stale k c h = no false refl h
  attach_is ch o mine session (reply.Err code) k c h = no false refl h
  attach_is ch o mine session reply.Done k c h = no false refl h
  attach_is ch o mine session (reply.Session id) k c h = no false refl h
  attach_is ch o mine session (reply.Epoch epoch) k c h = refl
  attach_is ch o mine session (reply.Path path) k c h = no false refl h
  attach_is ch o mine session (reply.PathStat path m) k c h = no false refl h
  attach_is ch o mine session (reply.Stat m) k c h = no false refl h
  attach_is ch o mine session (reply.Multi rs) k c h = no false refl h
  attach_is ch o mine session (reply.Failed codes) k c h = no false refl h

  module _ (session : ℕ) (passwd : List ℕ) (o : Origin) (r : Reply) (old new : Seats) (t : is_stale r ≡ false) where
    attach_seat : (ch : Choices) (n : Option ℕ) (k : ℕ) → is_epoch r ≡ true → (ch.luck k).answers ≡ n → (s : Seat) → refused_seat session (not (is_that (conn_of me boot o) k)) n zxid by_move s ≡ row_at (meaning ch me boot zxid (body.Attach session passwd o) r) k s
    attach_seat ch n k e l s = ap (λ (z : Settled). seated s z.connection)
        ((λ i. refused_if (is_of session s.connection.phase && not (sym (own o k) i)) (sym l i) zxid by_move s.connection)
        ∙ sym (attach_is ch o (record { node = me; boot = boot; conn = k }) session r k s.connection e)
        ∙ in_time ch (body.Attach session passwd o) r k s.connection t)

    moved_means : is_epoch r ≡ true → AreEnded session (conn_of me boot o) zxid moved old new → AreMeant me boot zxid (body.Attach session passwd o) r old new
    moved_means e h k = ((h by_move refl k).0, λ ch l. (h by_move refl k).1 ∙ each_seat _ _ (attach_seat ch (h by_move refl k).0 k e l) (map.get old k))

    unmoved_means : is_epoch r ≡ false → new ≡ old → AreMeant me boot zxid (body.Attach session passwd o) r old new
    unmoved_means e h = subst (λ m. AreMeant me boot zxid (body.Attach session passwd o) r old m) (sym h) (nothing_means (body.Attach session passwd o) r old (λ ch k c. attach_not ch o (record { node = me; boot = boot; conn = k }) session r k c e) t)

    attach_by : (b : Bool) → is_epoch r ≡ b → (is_epoch r ≡ true → AreEnded session (conn_of me boot o) zxid moved old new) × (is_epoch r ≡ false → new ≡ old) → AreMeant me boot zxid (body.Attach session passwd o) r old new
    attach_by true e h = moved_means e (h.0 e)
    attach_by false e h = unmoved_means e (h.1 e)

    pub attach_means : (is_epoch r ≡ true → AreEnded session (conn_of me boot o) zxid moved old new) × (is_epoch r ≡ false → new ≡ old) → AreMeant me boot zxid (body.Attach session passwd o) r old new
    attach_means h = attach_by (is_epoch r) refl h

  -- ---- the end of a session

  and_true : (b : Bool) → (b && true) ≡ b
  and_true true = refl
  and_true false = refl

  module _ (session : ℕ) (r : Reply) (old new : Seats) (t : is_stale r ≡ false) where
    expire_seat : (ch : Choices) (n : Option ℕ) (k : ℕ) → (ch.luck k).answers ≡ n → (s : Seat) → refused_seat session true n zxid by_end s ≡ row_at (meaning ch me boot zxid (body.Expire session) r) k s
    expire_seat ch n k l s = ap (λ (z : Settled). seated s z.connection)
        ((λ i. refused_if (and_true (is_of session s.connection.phase) i) (sym l i) zxid by_end s.connection)
        ∙ in_time ch (body.Expire session) r k s.connection t)

    pub expire_means : AreEnded session None zxid expired old new → AreMeant me boot zxid (body.Expire session) r old new
    expire_means h k = ((h by_end refl k).0, λ ch l. (h by_end refl k).1 ∙ each_seat _ _ (expire_seat ch (h by_end refl k).0 k l) (map.get old k))

  -- ---- a write

  module _ (session epoch seq : ℕ) (q : Cmd) (r : Reply) (answer : Option WireReply) (old new : Seats) (t : is_stale r ≡ false) (is : IsAnswerIn (body.Write session epoch seq q) r answer old) where
    written : (k : ℕ) (s : Seat) (b : Bool) → map.get old k ≡ Some s → is_in session epoch s.connection.phase ≡ b → (if b then replied_by seq answer s.connection else s.connection) ≡ (if b then stays (replied_to seq r s.connection) else stays s.connection).connection
    written k s true there i = ap (λ a. replied_by seq a s.connection) (is k s there i) ∙ found_is_kept seq r s.connection
    written k s false there i = refl

    write_at : (ch : Choices) (k : ℕ) (o : Option Seat) → map.get old k ≡ o → option_map (replied_seat session epoch seq answer) o ≡ option_map (row_at (meaning ch me boot zxid (body.Write session epoch seq q) r) k) o
    write_at ch k None there = refl
    write_at ch k (Some s) there = ap (λ c. Some (seated s c)) (written k s (is_in session epoch s.connection.phase) there refl ∙ ap (λ (z : Settled). z.connection) (in_time ch (body.Write session epoch seq q) r k s.connection t))

    pub write_means : AreReplied session epoch seq answer old new → AreMeant me boot zxid (body.Write session epoch seq q) r old new
    write_means h k = (None, λ ch l. h k ∙ write_at ch k (map.get old k) refl)

-- ---- by the body of the entry

module _ (me boot zxid : ℕ) (b : Body) (r : Reply) (old new : Seats) (t : is_stale r ≡ false) where
  pub as_noop : b ≡ body.Noop → AreMeant me boot zxid b r old old
  as_noop e = subst (λ z. AreMeant me boot zxid z r old old) (sym e) (noop_means me boot zxid r old t)

  pub as_open : (timeout : ℕ) (passwd : List ℕ) (o : Origin) → b ≡ body.OpenSession timeout passwd o → AreMeant me boot zxid b r old old
  as_open timeout passwd o e = subst (λ z. AreMeant me boot zxid z r old old) (sym e) (open_means me boot zxid timeout passwd o r old t)

  pub as_attach : (session : ℕ) (passwd : List ℕ) (o : Origin) (spared : Option ℕ) → b ≡ body.Attach session passwd o → spared ≡ newcomer me boot b
      → (is_epoch r ≡ true → AreEnded session spared zxid moved old new) × (is_epoch r ≡ false → new ≡ old) → AreMeant me boot zxid b r old new
  as_attach session passwd o spared e is h = subst (λ z. AreMeant me boot zxid z r old new) (sym e) (attach_means me boot zxid session passwd o r old new t
      (subst (λ z. (is_epoch r ≡ true → AreEnded session z zxid moved old new) × (is_epoch r ≡ false → new ≡ old)) (is ∙ ap (newcomer me boot) e) h))

  pub as_expire : (session : ℕ) → b ≡ body.Expire session → AreEnded session None zxid expired old new → AreMeant me boot zxid b r old new
  as_expire session e h = subst (λ z. AreMeant me boot zxid z r old new) (sym e) (expire_means me boot zxid session r old new t h)

  pub as_write : (session epoch seq : ℕ) (q : Cmd) (answer : Option WireReply) → b ≡ body.Write session epoch seq q → IsAnswerIn b r answer old → AreReplied session epoch seq answer old new → AreMeant me boot zxid b r old new
  as_write session epoch seq q answer e is h = subst (λ z. AreMeant me boot zxid z r old new) (sym e) (write_means me boot zxid session epoch seq q r answer old new t (subst (λ z. IsAnswerIn z r answer old) e is) h)
