-- After each event every connection is at rest.
use Rattle.std.proofs.Common.{◌≡◌, ℕ, Bool, true, false, cond, ◌||◌, List, [], ◌∷◌, length, Option, Some, None, is_some, refl, ap, sym, subst, ◌∙◌}
use Rattle.std.specs.Prelude.{nat_lt}
use Rattle.std.specs.Option.{option_map}
use Rattle.std.specs.List.{list_any}
use Rattle.std.specs.Ordering.{nat_cmp, eq_by_cmp}
use Rattle.std.specs.FinMap as map
use Rattle.kp_model.specs.State.{State}
use Rattle.kp_model.specs.LogEntry.{LogEntry}
use Rattle.kp_model.specs.Step.{apply}
use Rattle.kp_raft.specs.Parts as raft
use Rattle.kp_watch.specs.declared.watch.Watch.{Watch}
use Rattle.kp_wire.specs.declared.connect.ConnectRequest.{ConnectRequest}
use Rattle.kp_conn.specs.declared.fed.Fed.{Fed}
use Rattle.kp_conn.specs.declared.fed.FedEnd.{FedEnd}
use Rattle.kp_conn.specs.declared.fed.FedEnd.TheVariants as ends
use Rattle.kp_conn.specs.declared.phase.Phase.{Phase}
use Rattle.kp_conn.specs.declared.phase.Phase.TheVariants as phase
use Rattle.kp_conn.specs.Connection.{Connection, closed, is_over}
use Rattle.kp_conn.specs.Fed.{fed}
use Rattle.kp_step.specs.declared.seat.Seat.{Seat}
use Rattle.kp_step.specs.Choices.{Choices, Luck}
use Rattle.kp_step.specs.Node.{Node, Seats}
use Rattle.kp_step.specs.Answers.{Cause}
use Rattle.kp_step.specs.Settling.{is_at_rest, Settled, settled, stays, refused_if}
use Rattle.kp_step.specs.Handing.{Ground, Desk, Served, served, ended_by, joined_all, first_served, served_as, serves, is_refused, is_led}
use Rattle.kp_step.specs.Tables.{Table, Row, row_at, with_row, settled_in, settled_one, settled_all, seated}
use Rattle.kp_step.specs.Committing.{committed}
use Rattle.kp_step.specs.Step.{risen_as, risen, ended, with_row_if, raft_table, rose}
use Rattle.kp_step.specs.Runs.{IsResting}
use Rattle.kp_step.proofs.Tables.{no, tied, get-insert, get-mapped}
use Rattle.kp_step.proofs.Settles.{settled-rests}
use Rattle.kp_step.proofs.Serves.{choose, fed_so}
use Rattle.kp_step.proofs.Commits.{refuse_all}

abbrev pub IsQuiet : Connection → Type 0
IsQuiet c = is_at_rest c.queue ≡ true

abbrev pub AllQuiet : Seats → Type 0
AllQuiet m = (j : ℕ) → IsResting (map.get m j)

-- ---- the map

insert_at : (b : Bool) (x : Seat) (o : Option Seat) → IsQuiet x.connection → IsResting o → IsResting (cond b (Some x) o)
insert_at true x o h k = h
insert_at false x o h k = k

pub insert_quiet : (m : Seats) (k : ℕ) (x : Seat) → AllQuiet m → IsQuiet x.connection → AllQuiet (map.insert m k x)
insert_quiet m k x all h j = subst IsResting (sym (get-insert m k x j)) (insert_at (eq_by_cmp nat_cmp j k) x (map.get m j) h (all j))

row_quiet : (f : Row) → ((k : ℕ) (c : Connection) → IsQuiet c → IsQuiet (f k c).connection) → (k : ℕ) (o : Option Seat) → IsResting o → IsResting (option_map (row_at f k) o)
row_quiet f h k None r = tt
row_quiet f h k (Some s) r = h k s.connection r

rows_quiet : (f : Row) → ((k : ℕ) (c : Connection) → IsQuiet c → IsQuiet (f k c).connection) → (t : Table) → AllQuiet t.seats → AllQuiet (with_row f t).seats
unfolding with_row
rows_quiet f h t all j = subst IsResting (sym (get-mapped (row_at f) t.seats j)) (row_quiet f h j (map.get t.seats j) (all j))

-- ---- a risen term, an image

refuse_quiet : (b : Bool) (n : Option ℕ) (zxid : ℕ) (cause : Cause) (c : Connection) → IsQuiet c → IsQuiet (refused_if b n zxid cause c).connection
refuse_quiet true n zxid cause c h = ap is_at_rest (refuse_all (λ t. Unit {0}) n zxid cause (λ p q. tt) c c.queue).empty
refuse_quiet false n zxid cause c h = h

risen_quiet : (ch : Choices) (zxid k j : ℕ) (c d : Connection) (p : Phase) → IsQuiet c → IsQuiet (risen_as ch zxid j d p k c).connection
risen_quiet ch zxid k j c d phase.Fresh h = h
risen_quiet ch zxid k j c d (phase.Connecting ro) h = refl
risen_quiet ch zxid k j c d (phase.Live s e n) h = refuse_quiet (nat_lt 0 (length c.queue)) (ch.luck k).answers zxid _ c h
risen_quiet ch zxid k j c d (phase.Closing lost) h = h

abbrev SettledQuiet : Settled → Type 0
SettledQuiet r = IsQuiet r.connection

ended_quiet : (k : ℕ) (c : Connection) → IsQuiet c → IsQuiet (ended k c).connection
ended_quiet k c h = choose SettledQuiet (is_over c.phase) (stays c) (stays (closed false c)) h refl

abbrev TableQuiet : Table → Type 0
TableQuiet t = AllQuiet t.seats

if_quiet : (b : Bool) (f : Row) → ((k : ℕ) (c : Connection) → IsQuiet c → IsQuiet (f k c).connection) → (t : Table) → TableQuiet t → TableQuiet (with_row_if b f t)
if_quiet b f h t all = choose TableQuiet b (with_row f t) t (rows_quiet f h t all) all

pub raft_quiet : {I : Type 0} (ch : Choices) (x : Node) (o : raft.Outcome I) (image : Option I) → AllQuiet x.seats → AllQuiet (raft_table ch x o image).seats
unfolding raft_table
raft_quiet ch x o image all = if_quiet (is_some image) ended ended_quiet _ (if_quiet (rose x o) (risen ch x.state.applied) (λ k c. risen_quiet ch x.state.applied k k c c c.phase) _ all)

-- ---- bytes of a client

end_quiet : (e : FedEnd) (c : Connection) → IsQuiet c → IsQuiet (ended_by e c)
end_quiet ends.Ok c h = h
end_quiet (ends.Word w) c h = h
end_quiet (ends.Bad at) c h = choose IsQuiet (is_over c.phase) c (closed false c) h refl

abbrev ServedQuiet : Served → Type 0
ServedQuiet w = IsQuiet w.connection

served_quiet : (g : Ground) (luck : Luck) (k : ℕ) (ws : List Watch) (c : Connection) (d : Desk) (f : Fed) → ServedQuiet (served g luck k ws c d f)
unfolding served
served_quiet g luck k ws c d f = let j = joined_all g luck.requests c d f.requests in end_quiet f.end _ (settled-rests g.state k luck.answers ws j.connection j.connection.queue)

first_quiet : (g : Ground) (k : ℕ) (draw : List ℕ) (text : List ℕ → List ℕ) (c : Connection) (d : Desk) (ws : List Watch) (o : Option ConnectRequest) (e : FedEnd) → IsQuiet c → ServedQuiet (first_served g k draw text c d ws o e)
first_quiet g k draw text c d ws (Some q) e h = choose ServedQuiet (is_refused q) _ _ refl (choose ServedQuiet (is_led g d) _ _ h refl)
first_quiet g k draw text c d ws None ends.Ok h = h
first_quiet g k draw text c d ws None (ends.Bad at) h = refl
first_quiet g k draw text c d ws None (ends.Word w) h = refl

as_quiet : (g : Ground) (luck : Luck) (k : ℕ) (draw : List ℕ) (text : List ℕ → List ℕ) (d : Desk) (ws : List Watch) (p : Phase) (c : Connection) (f : Fed) → IsQuiet c → ServedQuiet (served_as g luck k draw text d ws p c f)
as_quiet g luck k draw text d ws phase.Fresh c f h = first_quiet g k draw text c d ws f.connect f.end h
as_quiet g luck k draw text d ws (phase.Connecting ro) c f h = first_quiet g k draw text c d ws f.connect f.end h
as_quiet g luck k draw text d ws (phase.Live s e n) c f h = served_quiet g luck k ws c d f
as_quiet g luck k draw text d ws (phase.Closing lost) c f h = first_quiet g k draw text c d ws f.connect f.end h

pub serves_quiet : (g : Ground) (luck : Luck) (k : ℕ) (draw : List ℕ) (text : List ℕ → List ℕ) (d : Desk) (ws : List Watch) (c : Connection) (bytes : List ℕ) → IsQuiet c → ServedQuiet (serves g luck k draw text d ws c bytes)
unfolding serves
serves_quiet g luck k draw text d ws c bytes h = as_quiet g luck k draw text d ws c.phase (fed c bytes).0 (fed c bytes).1 (ap is_at_rest (fed_so c bytes).queue ∙ h)

-- ---- a commit

module _ (ch : Choices) (s : State) where
  settle_at : (t : Table) (k j : ℕ) (x : Seat) (b : Bool) (n : Seat) → IsQuiet n.connection → (b ≡ false → IsResting (map.get t.seats j)) → IsResting (cond b (Some n) (map.get t.seats j))
  settle_at t k j x true n h f = h
  settle_at t k j x false n h f = f refl

  in_quiet : (t : Table) (k j : ℕ) (o : Option Seat) → map.get t.seats k ≡ o → (b : Bool) → eq_by_cmp nat_cmp j k ≡ b → (b ≡ false → IsResting (map.get t.seats j)) → IsResting (map.get (settled_in ch s t k o).seats j)
  in_quiet t k j None there true e h = subst (λ z. IsResting (map.get t.seats z)) (sym (tied j k e)) (subst IsResting (sym there) tt)
  in_quiet t k j None there false e h = h refl
  in_quiet t k j (Some x) there b e h = let n = seated x (settled s k (ch.luck k).answers t.watches x.connection x.connection.queue).connection in
      subst IsResting (sym (get-insert t.seats k n j ∙ ap (λ z. cond z (Some n) (map.get t.seats j)) e)) (settle_at t k j x b n (settled-rests s k (ch.luck k).answers t.watches x.connection x.connection.queue) h)

  one_quiet : (t : Table) (k j : ℕ) (b : Bool) → eq_by_cmp nat_cmp j k ≡ b → (b ≡ false → IsResting (map.get t.seats j)) → IsResting (map.get (settled_one ch s t k).seats j)
  unfolding settled_one
  one_quiet t k j b e h = in_quiet t k j (map.get t.seats k) refl b e h

  neither : (b rest : Bool) → b ≡ false → rest ≡ false → (b || rest) ≡ false
  neither b rest p q = ap (λ z. z || rest) p ∙ q

  all_quiet : (t : Table) (ks : List ℕ) → ((j : ℕ) → list_any (eq_by_cmp nat_cmp j) ks ≡ false → IsResting (map.get t.seats j)) → AllQuiet (settled_all ch s t ks).seats
  unfolding settled_all
  all_quiet t [] h = λ j. h j refl
  all_quiet t (k ∷ ks) h = all_quiet (settled_one ch s t k) ks
      (λ j none. one_quiet t k j (eq_by_cmp nat_cmp j k) refl (λ e. h j (neither (eq_by_cmp nat_cmp j k) (list_any (eq_by_cmp nat_cmp j) ks) e none)))

no_key : (o : Option Seat) → is_some o ≡ false → IsResting o
no_key None e = tt
no_key (Some x) e = no true e refl

pub committed_quiet : (ch : Choices) (x : Node) (now : ℕ) (e : LogEntry) → AllQuiet (committed ch x now e).table.seats
unfolding committed
committed_quiet ch x now e = all_quiet ch (apply x.state e).state _ _ (λ j none. no_key (map.get _ j) (map.contains_key-keys _ j ∙ none))
