-- Connections that were told of an entry changed at few of them.
use Rattle.std.proofs.Common.{◌≡◌, ℕ, ◌<◌, ◌≤◌, ◌+◌, Bool, true, false, cond, not, ◌&&◌, ◌||◌, List, [], ◌∷◌, length, drop, Option, Some, None, is_some, refl, ap, sym, subst, ◌∙◌}
use Rattle.std.specs.Prelude.{nat_eq, map, slice_get, if◌then◌else◌}
use Rattle.std.specs.List.{filter, list_any}
use Rattle.std.specs.Option.{option_map}
use Rattle.std.specs.Ordering.{nat_cmp, eq_by_cmp}
use Rattle.std.specs.Cmp.{unsigned_tied, nat_eq_equiv}
use Rattle.std.specs.BTreeSet.{contains, BTreeSet}
use Rattle.std.specs.FinMap as map
use Rattle.kp_model.specs.declared.command.Cmd.{Cmd}
use Rattle.kp_model.specs.declared.entry.Body.{Body}
use Rattle.kp_model.specs.declared.entry.Body.TheVariants as body
use Rattle.kp_model.specs.declared.reply.Event.{Event}
use Rattle.kp_model.specs.declared.reply.Reply.{Reply}
use Rattle.kp_seats.specs.Seating.{Seating}
use Rattle.kp_seats.specs.Serving.{IsServer, is_that, serves}
use Rattle.kp_watch.specs.declared.watch.Fired.{Fired}
use Rattle.kp_watch.specs.Watching.{shown, somes}
use Rattle.kp_watch.proofs.Listed.{any_same}
use Rattle.kp_conn.specs.declared.phase.Phase.{Phase}
use Rattle.kp_conn.specs.declared.phase.Phase.TheVariants as phase
use Rattle.kp_conn.specs.Connection.{Connection, is_over}
use Rattle.kp_conn.specs.Packets.{event_packet}
use Rattle.kp_step.specs.declared.seat.Seat.{Seat}
use Rattle.kp_step.specs.Choices.{Choices}
use Rattle.kp_step.specs.Node.{Seats}
use Rattle.kp_step.specs.Settling.{given_out, stays}
use Rattle.kp_step.specs.Tables.{row_at, seated}
use Rattle.kp_step.specs.Committing.{is_of, is_in, packets_for, hears, meaning}
use Rattle.kp_node.specs.Touching.{concerns}
use Rattle.kp_node.specs.Changing.{ChangedAt}
use Rattle.kp_node.specs.Concerned.{HasAll, HasOne, HasConcerned, subject, IsSubject, InformedChange}
use Rattle.kp_node.specs.Informing.{AreInformed}
use Rattle.kp_node.specs.Meaning.{IsIndexed}
use Rattle.kp_node.proofs.Maps.{no}
use Rattle.kp_node.proofs.Meant.{not_its, in_of}
use Rattle.kp_node.proofs.Touched.{others_stay}

-- ---- sets of numbers

neither : (a b : Bool) → (a || b) ≡ false → (a ≡ false) × (b ≡ false)
neither true b h = no true h refl
neither false b h = (refl, h)

-- so far all that isn't in the set is behind this place
abbrev pub HasSoFar : List ℕ → List ℕ → BTreeSet ℕ → Type 0
HasSoFar all rest set = (q : ℕ) → contains nat_cmp set q ≡ false → list_any (nat_eq q) all ≡ list_any (nat_eq q) rest

pub enters_next : (all : List ℕ) (k : ℕ) (from rest : List ℕ) (set new : BTreeSet ℕ) → from ≡ k ∷ rest → ((q : ℕ) → contains nat_cmp new q ≡ (nat_eq k q || contains nat_cmp set q)) → HasSoFar all from set → HasSoFar all rest new
enters_next all k from rest set new at has h q out =
    let both = neither (nat_eq k q) (contains nat_cmp set q) (sym (has q) ∙ out) in
    h q both.1 ∙ ap (list_any (nat_eq q)) at ∙ ap (λ b. b || list_any (nat_eq q) rest) (nat_eq_equiv.symm q k ∙ both.0)

pub enters_all : (all rest : List ℕ) (set : BTreeSet ℕ) → rest ≡ [] → HasSoFar all rest set → HasAll all set
enters_all all rest set at h q out = h q out ∙ ap (list_any (nat_eq q)) at

pub enters_one : (k : ℕ) (set new : BTreeSet ℕ) → ((q : ℕ) → contains nat_cmp new q ≡ (nat_eq k q || contains nat_cmp set q)) → HasOne (Some k) new
enters_one k set new has q out = (neither (nat_eq k q) (contains nat_cmp set q) (sym (has q) ∙ out)).0

pub keeps_others : (k : ℕ) (set new : BTreeSet ℕ) → ((q : ℕ) → contains nat_cmp new q ≡ (nat_eq k q || contains nat_cmp set q)) → (q : ℕ) → contains nat_cmp new q ≡ false → contains nat_cmp set q ≡ false
keeps_others k set new has q out = (neither (nat_eq k q) (contains nat_cmp set q) (sym (has q) ∙ out)).1

pub in_list : (set : BTreeSet ℕ) (ks : List ℕ) → ks ≡ set.keys → (q : ℕ) → list_any (nat_eq q) ks ≡ false → contains nat_cmp set q ≡ false
in_list set ks e q h = any_same (eq_by_cmp nat_cmp q) (nat_eq q) (λ x. unsigned_tied q x) set.keys ∙ ap (list_any (nat_eq q)) (sym e) ∙ h

pub has_concerned : (set : BTreeSet ℕ) (fs : List Fired) (server newcomer : Option ℕ) (ks : List ℕ) → ks ≡ set.keys → HasAll (map (λ (f : Fired). f.conn) fs) set → HasOne server set → HasOne newcomer set → HasConcerned fs server newcomer ks
has_concerned set fs server newcomer ks e a s n = record {
  hearers = λ q h. a q (in_list set ks e q h);
  server = λ q h. s q (in_list set ks e q h);
  newcomer = λ q h. n q (in_list set ks e q h);
}

-- ---- one that doesn't hear

-- the connections of what is shown are those that were fired
abbrev head_or : ℕ × Option Event → List (ℕ × Option Event) → ℕ × Option Event
head_or d [] = d
head_or d (x ∷ xs) = x

pub unheard : (es : List Event) (fs : List Fired) (pairs : List (ℕ × Event)) → shown es fs ≡ somes pairs → (q : ℕ) → list_any (nat_eq q) (map (λ (f : Fired). f.conn) fs) ≡ false → packets_for q pairs ≡ []
unheard es [] [] e q h = refl
unheard es [] (p ∷ pairs) e q h = no false refl (ap (λ (xs : List (ℕ × Option Event)). is_some (slice_get xs 0)) e)
unheard es (f ∷ fs) [] e q h = no false refl (sym (ap (λ (xs : List (ℕ × Option Event)). is_some (slice_get xs 0)) e))
unheard es (f ∷ fs) (p ∷ pairs) e q h =
    let both = neither (nat_eq q f.conn) (list_any (nat_eq q) (map (λ (g : Fired). g.conn) fs)) h in
    let same : f.conn ≡ p.0 = ap (λ (xs : List (ℕ × Option Event)). (head_or (f.conn, slice_get es f.at) xs).0) e in
    let other : nat_eq p.0 q ≡ false = ap (λ j. nat_eq j q) (sym same) ∙ nat_eq_equiv.symm f.conn q ∙ both.0 in
    ap (λ b. map (λ (x : ℕ × Event). event_packet x.1) (cond b (p ∷ filter (λ (x : ℕ × Event). nat_eq x.0 q) pairs) (filter (λ (x : ℕ × Event). nat_eq x.0 q) pairs))) other
    ∙ unheard es fs pairs (ap (drop 1) e) q both.1

pub hears_none : (ch : Choices) (pairs : List (ℕ × Event)) (k : ℕ) → packets_for k pairs ≡ [] → (c : Connection) → (hears ch pairs k c).connection ≡ c
unfolding given_out
hears_none ch pairs k e c = ap (λ ps. (if is_over c.phase then stays c else stays (given_out (ch.luck k).events ps c)).connection) e ∙ at (is_over c.phase) where
  at : (b : Bool) → (if b then stays c else stays c).connection ≡ c
  at true = refl
  at false = refl

-- ---- one that the entry doesn't concern

unserved : (t : Seating Seat) (session : ℕ) (server : Option ℕ) (k : ℕ) → IsServer t.sessions session server → is_that server k ≡ false → serves t.sessions session k ≡ false
unserved t session None k is h = is k
unserved t session (Some n) k is h = is k ∙ h

unconcerned : (t : Seating Seat) (b : Body) (server : Option ℕ) (k : ℕ) (s : Seat) → IsIndexed t → IsSubject t (subject b) server → is_that server k ≡ false → map.get t.seats k ≡ Some s → concerns b s.connection.phase ≡ false
unconcerned t body.Noop server k s h is not_k there = refl
unconcerned t (body.OpenSession timeout passwd o) server k s h is not_k there = refl
unconcerned t (body.Attach session passwd o) server k s h is not_k there = not_its t session h k s (unserved t session server k is not_k) there
unconcerned t (body.Expire session) server k s h is not_k there = not_its t session h k s (unserved t session server k is not_k) there
unconcerned t (body.Write session epoch seq c) server k s h is not_k there = in_of session epoch s.connection.phase (not_its t session h k s (unserved t session server k is not_k) there)

-- ---- both

-- choices in which each connection has this luck
abbrev all_find : Option ℕ → Option ℕ → Choices
all_find n m = record { room = None; luck = λ k. record { events = n; requests = None; answers = m } }

there_still : (f : Seat → Seat) (o : Option Seat) → is_some (option_map f o) ≡ is_some o
there_still f None = refl
there_still f (Some s) = refl

module _ (me boot zxid : ℕ) (b : Body) (r : Reply) (es : List Event) (fs : List Fired) (pairs : List (ℕ × Event)) (server newcomer : Option ℕ) (ks : List ℕ) (t : Seating Seat) (new : Seats)
    (h : IsIndexed t) (shows : shown es fs ≡ somes pairs) (is : IsSubject t (subject b) server) (has : HasConcerned fs server newcomer ks) (told : AreInformed me boot zxid b r pairs t.seats new) where
  abbrev chosen : ℕ → Choices
  chosen k = all_find (told k).0 (told k).1

  at : (k : ℕ) → map.get new k ≡ option_map (λ s. row_at (meaning (chosen k) me boot zxid b r) k (row_at (hears (chosen k) pairs) k s)) (map.get t.seats k)
  at k = (told k).2 (chosen k) refl refl

  seat_stays : (k : ℕ) (s : Seat) → list_any (nat_eq k) ks ≡ false → map.get t.seats k ≡ Some s → row_at (meaning (chosen k) me boot zxid b r) k (row_at (hears (chosen k) pairs) k s) ≡ s
  seat_stays k s out there =
      ap (λ c. row_at (meaning (chosen k) me boot zxid b r) k (seated s c)) (hears_none (chosen k) pairs k (unheard es fs pairs shows k (has.hearers k out)) s.connection)
      ∙ ap (seated s) (others_stay (chosen k) me boot zxid b r k s.connection (unconcerned t b server k s h is (has.server k out) there))

  stays_at : (k : ℕ) (o : Option Seat) → list_any (nat_eq k) ks ≡ false → map.get t.seats k ≡ o → option_map (λ s. row_at (meaning (chosen k) me boot zxid b r) k (row_at (hears (chosen k) pairs) k s)) o ≡ o
  stays_at k None out there = refl
  stays_at k (Some s) out there = ap Some (seat_stays k s out there)

  changed : ChangedAt ks t.seats new
  changed = record {
    same = λ q out. at q ∙ stays_at q (map.get t.seats q) out refl;
    there = λ q. ap is_some (at q) ∙ there_still _ (map.get t.seats q);
  }

pub informed_law : InformedChange
informed_law me boot zxid b r es fs pairs server newcomer ks t new h shows is has told = changed me boot zxid b r es fs pairs server newcomer ks t new h shows is has told
