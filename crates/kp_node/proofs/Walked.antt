-- A walk over all connections, and what it makes of the index of sessions, the watches, and the counts.
use Rattle.std.proofs.Common.{◌≡◌, ℕ, suc, ◌+◌, ◌-◌, ◌≤◌, ◌<◌, Bool, true, false, cond, not, ◌&&◌, ◌||◌, List, [], ◌∷◌, ◌++◌, length, Option, Some, None, is_some, refl, ap, sym, subst, ◌∙◌, arith, append_assoc, append-nil}
use Rattle.std.proofs.Common.{◌⊎◌, inl, inr}
use Rattle.std.specs.Prelude.{◌^◌, map, nat_eq, T, if◌then◌else◌}
use Rattle.std.specs.FinMap.{contains_key-keys, len-entries, entries-from_sorted}
use Rattle.std.proofs.lemmas.List.{length-map}
use Rattle.kp_seats.specs.Walked.{Becomes, IsWalk}
use Rattle.kp_step.specs.Tables.{mapped}
use Rattle.kp_step.proofs.Tables.{get-mapped}
use Rattle.kp_node.specs.Holding.{AreKept, served_by, served_at}
use Rattle.kp_node.specs.Walking.{IsBefore, Loosens, IsTurned}
use Rattle.kp_node.proofs.Maps.{same}
use Rattle.std.specs.List.{filter, list_any, AllByRecursion}
use Rattle.std.specs.Option.{option_map}
use Rattle.std.specs.Ordering.{nat_cmp, eq_by_cmp}
use Rattle.std.specs.Cmp.{unsigned_tied, nat_eq_equiv}
use Rattle.std.specs.FinMap as map
use Rattle.std.specs.FinMap.{FinMap, find}
use Rattle.kp_seats.specs.Serving.{Served}
use Rattle.kp_seats.specs.Seating.{Seating, above, Leads, left}
use Rattle.kp_watch.specs.declared.watch.Watch.{Watch}
use Rattle.kp_watch.specs.Watching.{dropped}
use Rattle.kp_conn.specs.Connection.{is_lost}
use Rattle.kp_step.specs.declared.seat.Seat.{Seat}
use Rattle.kp_step.specs.Node.{Seats}
use Rattle.kp_step.specs.Step.{swept, count_lost, keeps_watches, is_ready}
use Rattle.kp_node.specs.Walking.{phase_at, is_idle, is_given_up, left_all, dropped_all}
use Rattle.std.specs.declared.cmp.Ordering.{Ordering}
use Rattle.std.specs.declared.cmp.Ordering.TheVariants.{Less, Equal, Greater}
use Rattle.std.specs.Ordering.{is_lt, MatchOrdering}
use Rattle.std.specs.Cmp.{ranks}
use Rattle.std.specs.FinMap.{is_sorted}
use Rattle.std.specs.FinMap.Entries.{below_all}
use Rattle.std.proofs.lemmas.Bool.Decides.{nat_tests}
use Rattle.kp_node.proofs.Maps.{no, get-taken, same_number}

-- ---- the values at the keys

less : (a b : ℕ) → nat_cmp a b ≡ Less → a < b
less a b h = subst (λ r. MatchOrdering r (a < b) (a ≡ b) (b < a)) h (ranks a b)

is_less : (r : Ordering) → T (is_lt r) → r ≡ Less
is_less Less h = refl
is_less Equal h = absurd h
is_less Greater h = absurd h

first : (a b : Bool) → T (a && b) → T a
first true b h = tt
first false b h = h

second : (a b : Bool) → T (a && b) → T b
second true b h = h
second false b h = absurd h

apart : (a b : ℕ) → a < b → nat_eq b a ≡ false
apart a b h = grind (arith, nat_tests, h)

module _ {X : Type 0} where
  later : (e : ℕ × X) (es ls : List (ℕ × X)) → T (below_all nat_cmp e.0 ls) → AllByRecursion (λ x. find nat_cmp x.0 es ≡ Some x.1) ls → AllByRecursion (λ x. find nat_cmp x.0 (e ∷ es) ≡ Some x.1) ls
  later e es [] b h = tt
  later e es (x ∷ ls) b h = (
    ap (λ c. cond c (Some e.1) (find nat_cmp x.0 es)) (unsigned_tied x.0 e.0 ∙ apart e.0 x.0 (less e.0 x.0 (is_less _ (first _ _ b)))) ∙ h.0,
    later e es ls (second _ _ b) h.1,
  )

  found_all : (es : List (ℕ × X)) → T (is_sorted nat_cmp es) → AllByRecursion (λ x. find nat_cmp x.0 es ≡ Some x.1) es
  found_all [] h = tt
  found_all (e ∷ es) h = (
    ap (λ c. cond c (Some e.1) (find nat_cmp e.0 es)) (unsigned_tied e.0 e.0 ∙ nat_eq_equiv.refl e.0),
    later e es es (first _ _ h) (found_all es (second _ _ h)),
  )

  -- a test of the values is one of what is at the keys
  counts_as : (f : X → Bool) (g : ℕ → Bool) (h : Option X → Bool) (m : FinMap nat_cmp X) → ((k : ℕ) → g k ≡ h (map.get m k)) → ((x : X) → h (Some x) ≡ f x) → (es : List (ℕ × X)) → AllByRecursion (λ x. find nat_cmp x.0 (map.entries m) ≡ Some x.1) es
      → length (filter g (map (λ e. e.0) es)) ≡ length (filter f (map (λ e. e.1) es))
  counts_as f g h m gs fs [] all = refl
  counts_as f g h m gs fs (e ∷ es) all =
      let same : g e.0 ≡ f e.1 = gs e.0 ∙ ap h (map.get-entries m e.0 ∙ all.0) ∙ fs e.1 in
      ap (λ b. length (cond b (e.0 ∷ filter g (map (λ x. x.0) es)) (filter g (map (λ x. x.0) es)))) same
      ∙ either (f e.1) e.0 e.1 _ _ (counts_as f g h m gs fs es all.1)
    where
      either : (b : Bool) (k : ℕ) (x : X) (ks : List ℕ) (xs : List X) → length ks ≡ length xs → length (cond b (k ∷ ks) ks) ≡ length (cond b (x ∷ xs) xs)
      either true k x ks xs e = ap suc e
      either false k x ks xs e = e

-- ---- one after another

pub record Follows (t : Seating Seat) (ws : List Watch) (u : Seating Seat) (vs : List Watch) (conn : ℕ) : Type 0 where
  pub next : u.next ≡ t.next
  pub seats : u.seats ≡ t.seats
  pub room : u.has_room ≡ t.has_room
  pub sessions : left_all t.seats u.sessions (above t.seats conn) ≡ left_all t.seats t.sessions (above t.seats 0)
  pub watches : dropped_all t.seats vs (above t.seats conn) ≡ dropped_all t.seats ws (above t.seats 0)

module _ (t : Seating Seat) (ws : List Watch) where
  pub follows : Follows t ws t ws 0
  follows = record { next = refl; seats = refl; room = refl; sessions = refl; watches = refl }

  abbrev left_if : Bool → Seating Seat → ℕ → Seating Seat
  left_if b u k = if b then left u k else u

  same_beside : (b : Bool) (u : Seating Seat) (k : ℕ) → ((left_if b u k).next ≡ u.next) × (((left_if b u k).seats ≡ u.seats) × (((left_if b u k).has_room ≡ u.has_room) × ((left_if b u k).sessions ≡ (if b then map.remove u.sessions k else u.sessions))))
  same_beside true u k = (refl, (refl, (refl, refl)))
  same_beside false u k = (refl, (refl, (refl, refl)))

  module _ (u : Seating Seat) (vs : List Watch) (conn : ℕ) (f : Follows t ws u vs conn) where
    module _ (k : ℕ) (leads : Leads u.seats conn (Some k)) (u' : Seating Seat) (vs' : List Watch)
        (is : u' ≡ (if is_idle (phase_at u.seats k) then left u k else u)) (are : vs' ≡ (if is_given_up (phase_at u.seats k) then dropped vs k else vs)) where
      here : above t.seats conn ≡ k ∷ above t.seats k
      here = subst (λ m. above m conn ≡ k ∷ above m k) f.seats leads

      abbrev beside : ((left_if (is_idle (phase_at u.seats k)) u k).next ≡ u.next) × (((left_if (is_idle (phase_at u.seats k)) u k).seats ≡ u.seats) × (((left_if (is_idle (phase_at u.seats k)) u k).has_room ≡ u.has_room) × ((left_if (is_idle (phase_at u.seats k)) u k).sessions ≡ (if is_idle (phase_at u.seats k) then map.remove u.sessions k else u.sessions))))
      beside = same_beside (is_idle (phase_at u.seats k)) u k

      pub follows_on : Follows t ws u' vs' k
      follows_on = record {
        next = ap (λ z. z.next) is ∙ beside.0 ∙ f.next;
        seats = ap (λ z. z.seats) is ∙ beside.1.0 ∙ f.seats;
        room = ap (λ z. z.has_room) is ∙ beside.1.1.0 ∙ f.room;
        sessions =
            ap (λ s. left_all t.seats s (above t.seats k)) (ap (λ z. z.sessions) is ∙ beside.1.1.1 ∙ ap (λ m. if is_idle (phase_at m k) then map.remove u.sessions k else u.sessions) f.seats)
            ∙ ap (left_all t.seats u.sessions) (sym here) ∙ f.sessions;
        watches =
            ap (λ w. dropped_all t.seats w (above t.seats k)) (are ∙ ap (λ m. if is_given_up (phase_at m k) then dropped vs k else vs) f.seats)
            ∙ ap (dropped_all t.seats vs) (sym here) ∙ f.watches;
      }

    module _ (leads : Leads u.seats conn None) (all : above u.seats 0 ≡ map.keys u.seats) where
      none : above t.seats conn ≡ []
      none = subst (λ m. above m conn ≡ []) f.seats leads

      are_all : above t.seats 0 ≡ map.keys t.seats
      are_all = subst (λ m. above m 0 ≡ map.keys m) f.seats all

      sessions_are : u.sessions ≡ left_all t.seats t.sessions (map.keys t.seats)
      sessions_are = ap (left_all t.seats u.sessions) (sym none) ∙ f.sessions ∙ ap (left_all t.seats t.sessions) are_all

      pub followed_seats : u ≡ record t { sessions = left_all t.seats t.sessions (map.keys t.seats) }
      followed_seats = λ i. record { next = f.next i; seats = f.seats i; sessions = sessions_are i; has_room = f.room i }

      pub followed_watches : vs ≡ dropped_all t.seats ws (map.keys t.seats)
      followed_watches = ap (dropped_all t.seats vs) (sym none) ∙ f.watches ∙ ap (dropped_all t.seats ws) are_all

-- ---- how many were given up

abbrev pub lost_among : Seats → List ℕ → ℕ
lost_among m ks = length (filter (λ k. is_given_up (phase_at m k)) ks)

one_more : (b : Bool) (k : ℕ) (ks : List ℕ) → length (cond b (k ∷ ks) ks) ≡ (if b then 1 else 0) + length ks
one_more true k ks = omega arith
one_more false k ks = omega arith

at_most_one : (b : Bool) → (if b then 1 else 0) ≤ 1
at_most_one true = omega arith
at_most_one false = omega arith

module _ (m : Seats) (conn lost : ℕ) (h : lost + lost_among m (above m conn) ≡ lost_among m (above m 0)) (low : lost ≤ conn) where
  module _ (k : ℕ) (leads : Leads m conn (Some k)) (more : ℕ) (is : more ≡ (if is_given_up (phase_at m k) then 1 else 0)) where
    pub one_at_most : more ≤ 1
    one_at_most = subst (λ n. n ≤ 1) (sym is) (at_most_one (is_given_up (phase_at m k)))

    pub counts_on : (lost + more) + lost_among m (above m k) ≡ lost_among m (above m 0)
    counts_on =
        let a : lost_among m (above m conn) ≡ (if is_given_up (phase_at m k) then 1 else 0) + lost_among m (above m k) = ap (lost_among m) leads ∙ one_more (is_given_up (phase_at m k)) k (filter (λ j. is_given_up (phase_at m j)) (above m k)) in
        omega (arith, a, is, h)

  pub counted_all : Leads m conn None → lost ≡ lost_among m (above m 0)
  counted_all none = let a = ap (lost_among m) none in omega (arith, a, h)

given_up_there : (s : Seat) → is_given_up (option_map (λ (s : Seat). s.connection.phase) (Some s)) ≡ is_lost s.connection.phase
given_up_there s = refl

pub lost_of_all : (m : Seats) → lost_among m (map.keys m) ≡ count_lost m
lost_of_all m = counts_as (λ (s : Seat). is_lost s.connection.phase) (λ k. is_given_up (phase_at m k)) (λ o. is_given_up (option_map (λ (s : Seat). s.connection.phase) o)) m (λ k. refl) given_up_there (map.entries m) (found_all (map.entries m) (map.entries_sorted m))

-- ---- those for which nothing is ready

filter_cons : (f : ℕ → Bool) (k : ℕ) (ks : List ℕ) → filter f (k ∷ ks) ≡ filter f (k ∷ []) ++ filter f ks
filter_cons f k ks = by (f k) where
  by : (b : Bool) → cond b (k ∷ filter f ks) (filter f ks) ≡ cond b (k ∷ []) [] ++ filter f ks
  by true = refl
  by false = refl

module _ (m : Seats) (f : ℕ → Bool) (conn : ℕ) (list : List ℕ) (h : list ++ filter f (above m conn) ≡ filter f (above m 0)) where
  pub notes_on : (k : ℕ) (list' : List ℕ) → Leads m conn (Some k) → list' ≡ list ++ filter f (k ∷ []) → list' ++ filter f (above m k) ≡ filter f (above m 0)
  notes_on k list' leads is =
      ap (λ l. l ++ filter f (above m k)) is ∙ append_assoc list (filter f (k ∷ [])) (filter f (above m k))
      ∙ ap (λ l. list ++ l) (sym (filter_cons f k (above m k)) ∙ sym (ap (filter f) leads)) ∙ h

  pub noted_all : Leads m conn None → above m 0 ≡ map.keys m → list ≡ filter f (map.keys m)
  noted_all none all = sym (append-nil list) ∙ ap (λ l. list ++ filter f l) (sym none) ∙ h ∙ ap (filter f) all

-- ---- what is left of the index

abbrev has : List ℕ → ℕ → Bool
has ks q = list_any (nat_eq q) ks

known_keys : {X : Type 0} (m : FinMap nat_cmp X) (q : ℕ) → has (map.keys m) q ≡ is_some (map.get m q)
known_keys m q = tied_all (map.keys m) ∙ sym (contains_key-keys m q) where
  tied_all : (ks : List ℕ) → has ks q ≡ list_any (eq_by_cmp nat_cmp q) ks
  tied_all [] = refl
  tied_all (k ∷ ks) = λ i. sym (unsigned_tied q k) i || tied_all ks i

module _ (m : Seats) where
  abbrev idle : ℕ → Bool
  idle q = is_idle (phase_at m q)

  abbrev given : ℕ → Bool
  given q = is_given_up (phase_at m q)

  left_one : (s : Served) (k q : ℕ) (b e : Bool) → b ≡ idle k → nat_eq q k ≡ e → map.get (if b then map.remove s k else s) q ≡ cond (e && idle q) None (map.get s q)
  left_one s k q true true i e =
      get-taken s k q ∙ ap (λ c. cond c None (map.get s q)) (nat_eq_equiv.symm k q ∙ e)
      ∙ ap (λ c. cond c None (map.get s q)) (i ∙ ap idle (sym (same_number q k e)))
  left_one s k q true false i e = get-taken s k q ∙ ap (λ c. cond c None (map.get s q)) (nat_eq_equiv.symm k q ∙ e)
  left_one s k q false true i e = ap (λ c. cond c None (map.get s q)) (i ∙ ap idle (sym (same_number q k e)))
  left_one s k q false false i e = refl

  twice : {A : Type 0} (a e i : Bool) (o : Option A) → cond (a && i) None (cond (e && i) None o) ≡ cond ((e || a) && i) None o
  twice true true true o = refl
  twice true true false o = refl
  twice true false true o = refl
  twice true false false o = refl
  twice false true true o = refl
  twice false true false o = refl
  twice false false true o = refl
  twice false false false o = refl

  get-left_all : (s : Served) (ks : List ℕ) (q : ℕ) → map.get (left_all m s ks) q ≡ cond (has ks q && idle q) None (map.get s q)
  get-left_all s [] q = refl
  get-left_all s (k ∷ ks) q =
      get-left_all (if idle k then map.remove s k else s) ks q
      ∙ ap (cond (has ks q && idle q) None) (left_one s k q (idle k) (nat_eq q k) refl refl)
      ∙ twice (has ks q) (nat_eq q k) (idle q) (map.get s q)

  served_so : (o : Option Seat) (x : Option ℕ) → (x ≡ served_at o) ⊎ (is_idle (option_map (λ (s : Seat). s.connection.phase) o) ≡ true) → cond (is_some o && is_idle (option_map (λ (s : Seat). s.connection.phase) o)) None x ≡ served_at o
  served_so None x (inl e) = e
  served_so None x (inr i) = no false refl i
  served_so (Some s) x h = by (served_by s.connection.phase) refl h where
    by : (p : Option ℕ) → served_by s.connection.phase ≡ p → (x ≡ served_by s.connection.phase) ⊎ (not (is_some (served_by s.connection.phase)) ≡ true) → cond (not (is_some (served_by s.connection.phase))) None x ≡ served_by s.connection.phase
    by None e h = ap (λ p. cond (not (is_some p)) None x) e ∙ sym e
    by (Some n) e (inl f) = ap (λ p. cond (not (is_some p)) None x) e ∙ f
    by (Some n) e (inr f) = no false refl (sym (ap (λ p. not (is_some p)) e) ∙ f)

  pub served_behind : (s : Served) → ((q : ℕ) → (map.get s q ≡ served_at (map.get m q)) ⊎ (idle q ≡ true)) → (q : ℕ) → map.get (left_all m s (map.keys m)) q ≡ served_at (map.get m q)
  served_behind s h q =
      get-left_all s (map.keys m) q ∙ ap (λ b. cond (b && idle q) None (map.get s q)) (known_keys m q) ∙ served_so (map.get m q) (map.get s q) (h q)

  -- ---- what is left of the watches

  abbrev stays : List ℕ → Watch → Bool
  stays ks w = not (has ks w.conn && given w.conn)

  still : (k : ℕ) (ks : List ℕ) (w : Watch) (e : Bool) → nat_eq w.conn k ≡ e → given k ≡ true → (not e && not (has ks w.conn && given w.conn)) ≡ not ((e || has ks w.conn) && given w.conn)
  still k ks w true e g = ap not (sym g ∙ ap given (sym (same_number w.conn k e)))
  still k ks w false e g = refl

  but_none : (a : Bool) → not (a && false) ≡ not (true && false)
  but_none true = refl
  but_none false = refl

  so_too : (k : ℕ) (ks : List ℕ) (w : Watch) (e : Bool) → nat_eq w.conn k ≡ e → given k ≡ false → not (has ks w.conn && given w.conn) ≡ not ((e || has ks w.conn) && given w.conn)
  so_too k ks w true e g = let h : given w.conn ≡ false = ap given (same_number w.conn k e) ∙ g in ap (λ b. not (has ks w.conn && b)) h ∙ but_none (has ks w.conn) ∙ ap not (sym h)
  so_too k ks w false e g = refl

module _ {X : Type 0} where
  filter_alike : (f g : X → Bool) (xs : List X) → ((x : X) → f x ≡ g x) → filter f xs ≡ filter g xs
  filter_alike f g [] h = refl
  filter_alike f g (x ∷ xs) h = λ i. cond (h x i) (x ∷ filter_alike f g xs h i) (filter_alike f g xs h i)

  filter_there : (P : X → Type 0) (f g : X → Bool) (xs : List X) → AllByRecursion P xs → ((x : X) → P x → f x ≡ g x) → filter f xs ≡ filter g xs
  filter_there P f g [] all h = refl
  filter_there P f g (x ∷ xs) all h = λ i. cond (h x all.0 i) (x ∷ filter_there P f g xs all.1 h i) (filter_there P f g xs all.1 h i)

  filter_twice : (f g : X → Bool) (xs : List X) → filter f (filter g xs) ≡ filter (λ x. g x && f x) xs
  filter_twice f g [] = refl
  filter_twice f g (x ∷ xs) = by (g x) (filter_twice f g xs) where
    by : (b : Bool) → filter f (filter g xs) ≡ filter (λ x. g x && f x) xs → filter f (cond b (x ∷ filter g xs) (filter g xs)) ≡ cond (b && f x) (x ∷ filter (λ x. g x && f x) xs) (filter (λ x. g x && f x) xs)
    by true h = ap (λ ys. cond (f x) (x ∷ ys) ys) h
    by false h = h

  filter_all : (xs : List X) → filter (λ x. true) xs ≡ xs
  filter_all [] = refl
  filter_all (x ∷ xs) = ap (λ ys. x ∷ ys) (filter_all xs)

  length_filter : (f : X → Bool) (xs : List X) → length (filter f xs) ≤ length xs
  length_filter f [] = omega arith
  length_filter f (x ∷ xs) = by (f x) (length_filter f xs) where
    by : (b : Bool) → length (filter f xs) ≤ length xs → length (cond b (x ∷ filter f xs) (filter f xs)) ≤ suc (length xs)
    by true h = omega (arith, h)
    by false h = omega (arith, h)

module _ (m : Seats) where
  dropped_if : (k : ℕ) (ks : List ℕ) (ws : List Watch) (b : Bool) → given m k ≡ b → filter (stays m ks) (if b then dropped ws k else ws) ≡ filter (stays m (k ∷ ks)) ws
  dropped_if k ks ws true g = filter_twice (stays m ks) (λ (w : Watch). not (nat_eq w.conn k)) ws ∙ filter_alike _ _ ws (λ w. still m k ks w (nat_eq w.conn k) refl g)
  dropped_if k ks ws false g = filter_alike _ _ ws (λ w. so_too m k ks w (nat_eq w.conn k) refl g)

  dropped_as : (ws : List Watch) (ks : List ℕ) → dropped_all m ws ks ≡ filter (stays m ks) ws
  dropped_as ws [] = sym (filter_all ws)
  dropped_as ws (k ∷ ks) = dropped_as (if given m k then dropped ws k else ws) ks ∙ dropped_if k ks ws (given m k) refl

  keeps_there : (w : Watch) (o : Option Seat) → is_some o ≡ true → not (is_some o && is_given_up (option_map (λ (s : Seat). s.connection.phase) o)) ≡ keeps_watches o
  keeps_there w None h = no false refl h
  keeps_there w (Some s) h = refl

  pub swept_behind : (ws : List Watch) → AllByRecursion (λ (w : Watch). is_some (map.get m w.conn) ≡ true) ws → dropped_all m ws (map.keys m) ≡ swept m ws
  swept_behind ws all = dropped_as ws (map.keys m) ∙ filter_there (λ (w : Watch). is_some (map.get m w.conn) ≡ true) _ _ ws all
      (λ w h. ap (λ b. not (b && given m w.conn)) (known_keys m w.conn) ∙ keeps_there w (map.get m w.conn) h)

-- ---- the same connections

module _ {X : Type 0} (f : ℕ → X → X) where
  below_same : (k : ℕ) (es : List (ℕ × X)) → below_all nat_cmp k (map (λ e. (e.0, f e.0 e.1)) es) ≡ below_all nat_cmp k es
  below_same k [] = refl
  below_same k (e ∷ es) = ap (λ b. is_lt (nat_cmp k e.0) && b) (below_same k es)

  sorted_same : (es : List (ℕ × X)) → is_sorted nat_cmp (map (λ e. (e.0, f e.0 e.1)) es) ≡ is_sorted nat_cmp es
  sorted_same [] = refl
  sorted_same (e ∷ es) = λ i. below_same e.0 es i && sorted_same es i

  firsts : (es : List (ℕ × X)) → map (λ (e : ℕ × X). e.0) (map (λ (e : ℕ × X). (e.0, f e.0 e.1)) es) ≡ map (λ (e : ℕ × X). e.0) es
  firsts [] = refl
  firsts (e ∷ es) = ap (λ ks. e.0 ∷ ks) (firsts es)

  keys_mapped : (m : FinMap nat_cmp X) → map.keys (mapped f m) ≡ map.keys m
  unfolding mapped
  keys_mapped m = ap (map (λ (e : ℕ × X). e.0)) (entries-from_sorted nat_cmp (map (λ (e : ℕ × X). (e.0, f e.0 e.1)) (map.entries m)) (subst T (sym (sorted_same (map.entries m))) (map.entries_sorted m))) ∙ firsts (map.entries m)

module _ {X : Type 0} (R : ℕ → X → X → Type 0) (m n : FinMap nat_cmp X) (each : (q : ℕ) → Becomes (R q) (map.get m q) (map.get n q)) where
  abbrev pick : (q : ℕ) (o b : Option X) → Becomes (R q) o b → X → X
  pick q None b h x = x
  pick q (Some y) b h x = h.0

  picked : (q : ℕ) (o b : Option X) (h : Becomes (R q) o b) → option_map (pick q o b h) o ≡ b
  picked q None b h = sym h
  picked q (Some x) b h = sym h.1

  is_mapped : n ≡ mapped (λ q. pick q (map.get m q) (map.get n q) (each q)) m
  is_mapped = same _ _ (λ q. sym (get-mapped (λ q. pick q (map.get m q) (map.get n q) (each q)) m q ∙ picked q (map.get m q) (map.get n q) (each q)))

  pub keys_same : map.keys n ≡ map.keys m
  keys_same = ap map.keys is_mapped ∙ keys_mapped _ m

len_keys : {X : Type 0} (m : FinMap nat_cmp X) → map.len m ≡ length (map.keys m)
len_keys m = len-entries m ∙ sym (length-map (map.entries m) (λ e. e.0))

lost_few : (m : Seats) → count_lost m ≤ map.len m
lost_few m =
    let a = length_filter (λ (s : Seat). is_lost s.connection.phase) (map.values m) in
    let b = len-entries m in
    let c = length-map (map.entries m) (λ (e : ℕ × Seat). e.1) in
    omega (arith, a, b, c)

-- ---- all of it

module _ (R : ℕ → Seat → Seat → Type 0) (loosens : Loosens R) (t : Seating Seat) (ws : List Watch) (unready : List ℕ) (n : ℕ) (before : IsBefore t.seats unready n)
    (kept : AreKept t.seats ws) (served : (q : ℕ) → map.get t.sessions q ≡ served_at (map.get t.seats q)) (w : Seating Seat) (walk : IsWalk R t w) where
  stays_there : (q : ℕ) (o b : Option Seat) → Becomes (R q) o b → is_some b ≡ is_some o
  stays_there q None b h = ap is_some h
  stays_there q (Some x) b h = ap is_some h.1

  kept_there : (o : Option Seat) → keeps_watches o ≡ true → is_some o ≡ true
  kept_there None h = no false refl h
  kept_there (Some s) h = refl

  all_there : (vs : List Watch) → AreKept t.seats vs → AllByRecursion (λ (v : Watch). is_some (map.get w.seats v.conn) ≡ true) vs
  all_there [] h = tt
  all_there (v ∷ vs) h = (stays_there v.conn _ _ (walk.each v.conn) ∙ kept_there (map.get t.seats v.conn) h.0, all_there vs h.1)

  loosened : (q : ℕ) (o b : Option Seat) → Becomes (R q) o b → (served_at b ≡ served_at o) ⊎ (is_idle (option_map (λ (s : Seat). s.connection.phase) b) ≡ true)
  loosened q None b h = inl (ap served_at h)
  loosened q (Some x) b h = by (loosens q x h.0 h.2) where
    by : (served_by h.0.connection.phase ≡ served_by x.connection.phase) ⊎ (served_by h.0.connection.phase ≡ None) → (served_at b ≡ served_by x.connection.phase) ⊎ (is_idle (option_map (λ (s : Seat). s.connection.phase) b) ≡ true)
    by (inl e) = inl (ap served_at h.1 ∙ e)
    by (inr e) = inr (ap (λ o. is_idle (option_map (λ (s : Seat). s.connection.phase) o)) h.1 ∙ ap (λ o. not (is_some o)) e)

  at_worst : (q : ℕ) → (served_at (map.get w.seats q) ≡ served_at (map.get t.seats q)) ⊎ (is_idle (phase_at w.seats q) ≡ true) → (map.get w.sessions q ≡ served_at (map.get w.seats q)) ⊎ (is_idle (phase_at w.seats q) ≡ true)
  at_worst q (inl e) = inl (ap (λ s. map.get s q) walk.beside.1 ∙ served q ∙ sym e)
  at_worst q (inr e) = inr e

  swap : (a b : Bool) → (a && b) ≡ (b && a)
  swap true true = refl
  swap true false = refl
  swap false true = refl
  swap false false = refl

  module _ (u : Seating Seat) (vs : List Watch) (is : u ≡ record w { sessions = left_all w.seats w.sessions (map.keys w.seats) }) (are : vs ≡ dropped_all w.seats ws (map.keys w.seats)) where
    seats_are : u.seats ≡ w.seats
    seats_are = ap (λ z. z.seats) is

    each_is : (q : ℕ) → Becomes (R q) (map.get t.seats q) (map.get u.seats q)
    each_is = subst (λ m. (q : ℕ) → Becomes (R q) (map.get t.seats q) (map.get m q)) (sym seats_are) walk.each

    pub few_lost : count_lost u.seats < 2 ^ 32
    few_lost =
        let a = lost_few u.seats in
        let b = len_keys u.seats in
        let c = len_keys t.seats in
        let d = ap length (keys_same R t.seats u.seats each_is) in
        let e = before.few in
        omega (arith, a, b, c, d, e)

    pub turned : (ready list : List ℕ) (count : ℕ) → list ≡ ready → ready ≡ filter (λ k. is_ready (map.get u.seats k)) unready → count ≡ count_lost u.seats - n → IsTurned R t ws u vs list count
    turned ready list count listed h lost = record {
      each = each_is;
      next = ap (λ z. z.next) is ∙ walk.beside.0;
      served = subst (λ z. (q : ℕ) → map.get z.sessions q ≡ served_at (map.get z.seats q)) (sym is) (served_behind w.seats w.sessions (λ q. at_worst q (loosened q _ _ (walk.each q))));
      watches = are ∙ swept_behind w.seats ws (all_there ws kept) ∙ ap (λ m. swept m ws) (sym seats_are);
      ready =
          listed ∙ h ∙ ap (filter (λ k. is_ready (map.get u.seats k))) before.listed
          ∙ filter_twice (λ k. is_ready (map.get u.seats k)) (λ k. not (is_ready (map.get t.seats k))) (map.keys t.seats)
          ∙ filter_alike _ _ (map.keys t.seats) (λ k. swap (not (is_ready (map.get t.seats k))) (is_ready (map.get u.seats k)))
          ∙ ap (filter (λ k. is_ready (map.get u.seats k) && not (is_ready (map.get t.seats k)))) (sym (keys_same R t.seats u.seats each_is));
      lost = lost ∙ ap (λ k. count_lost u.seats - k) before.lost;
    }
