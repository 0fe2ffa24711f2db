-- Sessions become known before they are heard.
use Rattle.std.proofs.Common.{◌≡◌, ℕ, zero, suc, ◌+◌, ◌<◌, ◌≤◌, arith, Bool, true, false, cond, not, nat_eq, ◌&&◌, ◌||◌, List, [], ◌∷◌, ◌++◌, length, drop, get_or, Option, Some, None, is_some, refl, ap, sym, subst, ◌∙◌}
use Rattle.std.specs.Prelude.{if◌then◌else◌}
use Rattle.std.specs.Option.{option_map}
use Rattle.std.specs.List.{list_any}
use Rattle.std.specs.Ordering.{nat_cmp}
use Rattle.std.specs.Cmp.{nat_eq_equiv}
use Rattle.std.specs.FinMap as map
use Rattle.std.specs.FinMap.{FinMap}
use Rattle.std.proofs.lemmas.List.{drop_more}
use Rattle.kp_model.specs.declared.session.Session.{Session}
use Rattle.kp_model.specs.State.{State, Sessions}
use Rattle.kp_expiry.specs.declared.heard.Heard.{Heard}
use Rattle.kp_step.specs.Node.{heard_at}
use Rattle.kp_step.specs.Committing.{hear, hear_in, hear_all}
use Rattle.kp_node.specs.Named.{has, missing, forgotten, IsKnown, AreKnown, IsAdmitted, TakesIn}
use Rattle.kp_node.proofs.Maps.{no, get-put, get-taken, same, same_number}

drop_none : (ks : List ℕ) (i : ℕ) → length ks ≤ i → drop i ks ≡ []
drop_none [] zero l = refl
drop_none [] (suc i) l = refl
drop_none (k ∷ ks) zero l = absurd (omega (arith, l))
drop_none (k ∷ ks) (suc i) l = drop_none ks i (omega (arith, l))

-- ---- taken back

get-forgotten : (m : FinMap nat_cmp Heard) (ks : List ℕ) (q : ℕ) → map.get (forgotten m ks) q ≡ cond (has ks q) None (map.get m q)
get-forgotten m [] q = refl
get-forgotten m (k ∷ ks) q = get-forgotten (map.remove m k) ks q ∙ ap (cond (has ks q) None) (get-taken m k q ∙ ap (λ b. cond b None (map.get m q)) (nat_eq_equiv.symm k q)) ∙ twice (has ks q) (nat_eq q k) (map.get m q)
  where
    twice : (a b : Bool) (o : Option Heard) → cond a None (cond b None o) ≡ cond (b || a) None o
    twice true true o = refl
    twice true false o = refl
    twice false true o = refl
    twice false false o = refl

has_more : (ks : List ℕ) (id q : ℕ) → has (ks ++ id ∷ []) q ≡ (has ks q || nat_eq q id)
has_more [] id q = or_none (nat_eq q id)
  where
    or_none : (b : Bool) → (b || false) ≡ b
    or_none true = refl
    or_none false = refl
has_more (k ∷ ks) id q = ap (λ b. nat_eq q k || b) (has_more ks id q) ∙ again (nat_eq q k) (has ks q) (nat_eq q id)
  where
    again : (a b c : Bool) → (a || (b || c)) ≡ ((a || b) || c)
    again true b c = refl
    again false b c = refl

-- ---- one after another

-- those that are left are known, or will be
pub record Admits (sessions : Sessions) (ids : List ℕ) (old : FinMap nat_cmp Heard) (list : List ℕ) (now : FinMap nat_cmp Heard) (left : List ℕ) : Type 0 where
  pub known : (q : ℕ) → has ids q ≡ true → has left q ≡ false → IsKnown sessions q now
  pub among : (q : ℕ) → has list q ≡ true → (has ids q ≡ true) × (is_some (map.get sessions q) ≡ true)
  pub behind : (q : ℕ) → has left q ≡ true → has ids q ≡ true
  pub back : (q : ℕ) → cond (has list q) None (map.get now q) ≡ map.get old q

module _ (sessions : Sessions) (ids : List ℕ) (old : FinMap nat_cmp Heard) where
  pub admits : Admits sessions ids old [] old ids
  admits = record { known = λ q h l. no (has ids q) l h; among = λ q h. no false refl h; behind = λ q h. h; back = λ q. refl }

  module _ (list : List ℕ) (m : FinMap nat_cmp Heard) (id : ℕ) (left : List ℕ) (a : Admits sessions ids old list m (id ∷ left)) where
    here : has ids id ≡ true
    here = a.behind id (ap (λ b. b || has left id) (nat_eq_equiv.refl id))

    later : (q : ℕ) → has left q ≡ true → has ids q ≡ true
    later q h = a.behind q (or_so (nat_eq q id) (has left q) h)
      where
        or_so : (b c : Bool) → c ≡ true → (b || c) ≡ true
        or_so true c h = refl
        or_so false c h = h

    -- it is known already, or the state has no such session
    not_missing : (o : Option Heard) (x : Option Session) → (if is_some o then None else option_map (λ (x : Session). x.timeout) x) ≡ None → is_some x ≡ true → is_some o ≡ true
    not_missing (Some h) x e f = refl
    not_missing None None e f = no false refl f
    not_missing None (Some x) e f = no false refl (sym (ap is_some e))

    known_so : (q : ℕ) (b : Bool) → nat_eq q id ≡ b → missing sessions m id ≡ None → has ids q ≡ true → has left q ≡ false → IsKnown sessions q m
    known_so q true e none h l = subst (λ k. IsKnown sessions k m) (sym (same_number q id e)) (not_missing (map.get m id) (map.get sessions id) none)
    known_so q false e none h l = a.known q h (ap (λ b. b || has left q) e ∙ l)

    pub passes_over : missing sessions m id ≡ None → Admits sessions ids old list m left
    passes_over none = record { known = λ q. known_so q (nat_eq q id) refl none; among = a.among; behind = later; back = a.back }

    module _ (timeout : ℕ) (is : missing sessions m id ≡ Some timeout) (x : Heard) where
      unknown : (o : Option Heard) (y : Option Session) → (if is_some o then None else option_map (λ (x : Session). x.timeout) y) ≡ Some timeout → (o ≡ None) × (is_some y ≡ true)
      unknown (Some h) y e = no false refl (ap is_some e)
      unknown None None e = no false refl (ap is_some e)
      unknown None (Some y) e = (refl, refl)

      was : (map.get m id ≡ None) × (is_some (map.get sessions id) ≡ true)
      was = unknown (map.get m id) (map.get sessions id) is

      known_put : (q : ℕ) (b : Bool) → nat_eq id q ≡ b → has ids q ≡ true → has left q ≡ false → is_some (map.get sessions q) ≡ true → is_some (cond b (Some x) (map.get m q)) ≡ true
      known_put q true e h l s = refl
      known_put q false e h l s = a.known q h (ap (λ b. b || has left q) (nat_eq_equiv.symm q id ∙ e) ∙ l) s

      among_put : (q : ℕ) (b c : Bool) → has list q ≡ b → nat_eq q id ≡ c → (b || c) ≡ true → (has ids q ≡ true) × (is_some (map.get sessions q) ≡ true)
      among_put q true c e f h = a.among q e
      among_put q false true e f h = subst (λ k. (has ids k ≡ true) × (is_some (map.get sessions k) ≡ true)) (sym (same_number q id f)) (here, was.1)
      among_put q false false e f h = no false refl h

      back_put : (q : ℕ) (b c : Bool) → has list q ≡ b → nat_eq q id ≡ c → cond (b || c) None (cond c (Some x) (map.get m q)) ≡ map.get old q
      back_put q true true e f = ap (λ d. cond d None (map.get m q)) (sym e) ∙ a.back q
      back_put q true false e f = ap (λ d. cond d None (map.get m q)) (sym e) ∙ a.back q
      back_put q false true e f = sym (ap (map.get m) (same_number q id f) ∙ was.0) ∙ ap (λ d. cond d None (map.get m q)) (sym e) ∙ a.back q
      back_put q false false e f = ap (λ d. cond d None (map.get m q)) (sym e) ∙ a.back q

      pub takes_in : Admits sessions ids old (list ++ id ∷ []) (map.insert m id x) left
      takes_in = record {
        known = λ q h l s. ap is_some (get-put m id x q) ∙ known_put q (nat_eq id q) refl h l s;
        among = λ q h. among_put q (has list q) (nat_eq q id) refl refl (sym (has_more list id q) ∙ h);
        behind = later;
        back = λ q. (λ i. cond (has_more list id q i) None ((get-put m id x q ∙ ap (λ b. cond b (Some x) (map.get m q)) (nat_eq_equiv.symm id q)) i)) ∙ back_put q (has list q) (nat_eq q id) refl refl;
      }

  pub goes_on : (list list' : List ℕ) (m m' : FinMap nat_cmp Heard) (id : ℕ) (left : List ℕ) → Admits sessions ids old list m (id ∷ left) → (o : Option ℕ) → missing sessions m id ≡ o → TakesIn id o m list m' list' → Admits sessions ids old list' m' left
  goes_on list list' m m' id left a None e h = subst (λ l. Admits sessions ids old l m' left) (sym h.1) (subst (λ n. Admits sessions ids old list n left) (sym h.0) (passes_over list m id left a e))
  goes_on list list' m m' id left a (Some timeout) e h = subst (λ l. Admits sessions ids old l m' left) (sym h.2) (subst (λ n. Admits sessions ids old (list ++ id ∷ []) n left) (sym h.1) (takes_in list m id left a timeout e h.0))

  -- at a place of the list
  pub goes_at : (list list' : List ℕ) (m m' : FinMap nat_cmp Heard) (i : ℕ) → i < length ids → Admits sessions ids old list m (drop i ids) → TakesIn (get_or ids i 0) (missing sessions m (get_or ids i 0)) m list m' list' → Admits sessions ids old list' m' (drop (i + 1) ids)
  goes_at list list' m m' i l a h = goes_on list list' m m' (get_or ids i 0) (drop (i + 1) ids) (subst (Admits sessions ids old list m) (drop_more ids i 0 l) a) (missing sessions m (get_or ids i 0)) refl h

  pub forgets : (list list' : List ℕ) (m m' m'' : FinMap nat_cmp Heard) (left : List ℕ) → Admits sessions ids old list m left → m' ≡ m → list' ≡ list → m'' ≡ forgotten m' list' → m'' ≡ old
  forgets list list' m m' m'' left a e f is = is ∙ (λ i. forgotten (e i) (f i)) ∙ same _ _ (λ q. get-forgotten m list q ∙ a.back q)

  pub back_again : (list : List ℕ) (m : FinMap nat_cmp Heard) (left : List ℕ) → Admits sessions ids old list m left → forgotten m list ≡ old
  back_again list m left a = same _ _ (λ q. get-forgotten m list q ∙ a.back q)

  admitted : (list : List ℕ) (m : FinMap nat_cmp Heard) (left : List ℕ) → left ≡ [] → Admits sessions ids old list m left → IsAdmitted sessions ids old list m
  admitted list m left none a = record {
    known = λ q h. a.known q h (ap (λ l. has l q) none);
    among = a.among;
    back = back_again list m left a;
  }

  pub admitted_all : (list : List ℕ) (m : FinMap nat_cmp Heard) (i : ℕ) → length ids ≤ i → Admits sessions ids old list m (drop i ids) → IsAdmitted sessions ids old list m
  admitted_all list m i l a = admitted list m (drop i ids) (drop_none ids i l) a

-- ---- to hear what is known

module _ (now : ℕ) (s : State) (ids : List ℕ) where
  known_behind : (m : FinMap nat_cmp Heard) (id q : ℕ) (o : Option Session) → is_some (map.get m q) ≡ true → is_some (map.get (hear_in now id o m) q) ≡ true
  known_behind m id q None h = h
  known_behind m id q (Some x) h = ap is_some (get-put m id (heard_at now id x.timeout) q) ∙ by (nat_eq id q) h
    where
      by : (b : Bool) → is_some (map.get m q) ≡ true → is_some (cond b (Some (heard_at now id x.timeout)) (map.get m q)) ≡ true
      by true h = refl
      by false h = h

  pub still_known : (m : FinMap nat_cmp Heard) (id : ℕ) → AreKnown s.sessions ids m → AreKnown s.sessions ids (hear now s m id)
  still_known m id h q e f = known_behind m id q (map.get s.sessions id) (h q e f)

has_drop : (ks : List ℕ) (i k : ℕ) → has (drop i ks) k ≡ true → has ks k ≡ true
has_drop [] zero k h = h
has_drop [] (suc i) k h = h
has_drop (x ∷ ks) zero k h = h
has_drop (x ∷ ks) (suc i) k h = or_so (nat_eq k x) (has ks k) (has_drop ks i k h)
  where
    or_so : (b c : Bool) → c ≡ true → (b || c) ≡ true
    or_so true c h = refl
    or_so false c h = h

pub has_at : (ids : List ℕ) (i : ℕ) → i < length ids → has ids (get_or ids i 0) ≡ true
has_at ids i l = has_drop ids i (get_or ids i 0) (ap (λ z. has z (get_or ids i 0)) (drop_more ids i 0 l) ∙ ap (λ b. b || has (drop (i + 1) ids) (get_or ids i 0)) (nat_eq_equiv.refl (get_or ids i 0)))

module _ (now : ℕ) (s : State) (ids : List ℕ) (old m m' : FinMap nat_cmp Heard) (i : ℕ) where
  pub hears_on : i < length ids → AreKnown s.sessions ids m × (hear_all now s m (drop i ids) ≡ hear_all now s old ids) → m' ≡ hear now s m (get_or ids i 0) → AreKnown s.sessions ids m' × (hear_all now s m' (drop (i + 1) ids) ≡ hear_all now s old ids)
  unfolding hear_all
  hears_on l h is = (
    subst (AreKnown s.sessions ids) (sym is) (still_known now s ids m (get_or ids i 0) h.0),
    ap (λ z. hear_all now s z (drop (i + 1) ids)) is ∙ ap (hear_all now s m) (sym (drop_more ids i 0 l)) ∙ h.1,
  )

  pub heard_at_end : length ids ≤ i → hear_all now s m (drop i ids) ≡ hear_all now s old ids → m ≡ hear_all now s old ids
  unfolding hear_all
  heard_at_end l h = ap (hear_all now s m) (sym (drop_none ids i l)) ∙ h

-- ---- what was admitted is heard as if it hadn't been

-- when a session was heard, behind its hearing
abbrev heard_as : ℕ → ℕ → Option Session → Option Heard → Option Heard
heard_as now q None o = o
heard_as now q (Some x) o = Some (heard_at now q x.timeout)

module _ (now : ℕ) (s : State) where
  hear_here : (m : FinMap nat_cmp Heard) (q : ℕ) (x : Option Session) → map.get (hear_in now q x m) q ≡ heard_as now q x (map.get m q)
  hear_here m q None = refl
  hear_here m q (Some x) = get-put m q (heard_at now q x.timeout) q ∙ ap (λ b. cond b (Some (heard_at now q x.timeout)) (map.get m q)) (nat_eq_equiv.refl q)

  hear_there : (m : FinMap nat_cmp Heard) (id q : ℕ) (x : Option Session) → nat_eq q id ≡ false → map.get (hear_in now id x m) q ≡ map.get m q
  hear_there m id q None e = refl
  hear_there m id q (Some x) e = get-put m id (heard_at now id x.timeout) q ∙ ap (λ b. cond b (Some (heard_at now id x.timeout)) (map.get m q)) (nat_eq_equiv.symm id q ∙ e)

  get-hear : (m : FinMap nat_cmp Heard) (id q : ℕ) (b : Bool) → nat_eq q id ≡ b → map.get (hear now s m id) q ≡ cond b (heard_as now q (map.get s.sessions q) (map.get m q)) (map.get m q)
  get-hear m id q true e = subst (λ k. map.get (hear now s m k) q ≡ heard_as now q (map.get s.sessions q) (map.get m q)) (same_number q id e) (hear_here m q (map.get s.sessions q))
  get-hear m id q false e = hear_there m id q (map.get s.sessions id) e

  twice : (q : ℕ) (a b : Bool) (x : Option Session) (o : Option Heard) → cond a (heard_as now q x (cond b (heard_as now q x o) o)) (cond b (heard_as now q x o) o) ≡ cond (b || a) (heard_as now q x o) o
  twice q true true None o = refl
  twice q true true (Some x) o = refl
  twice q true false x o = refl
  twice q false true x o = refl
  twice q false false x o = refl

  get-hear_all : (m : FinMap nat_cmp Heard) (ids : List ℕ) (q : ℕ) → map.get (hear_all now s m ids) q ≡ cond (has ids q) (heard_as now q (map.get s.sessions q) (map.get m q)) (map.get m q)
  unfolding hear_all
  get-hear_all m [] q = refl
  get-hear_all m (id ∷ ids) q = get-hear_all (hear now s m id) ids q
      ∙ ap (λ o. cond (has ids q) (heard_as now q (map.get s.sessions q) o) o) (get-hear m id q (nat_eq q id) refl)
      ∙ twice q (has ids q) (nat_eq q id) (map.get s.sessions q) (map.get m q)

  both_heard : (q : ℕ) (b : Bool) (x : Option Session) (o p : Option Heard) → b ≡ true → is_some x ≡ true → cond b (heard_as now q x o) o ≡ cond b (heard_as now q x p) p
  both_heard q true (Some x) o p e f = refl
  both_heard q true None o p e f = no false refl f
  both_heard q false x o p e f = no false refl e

  module _ (ids : List ℕ) (old : FinMap nat_cmp Heard) (list : List ℕ) (new : FinMap nat_cmp Heard) (a : IsAdmitted s.sessions ids old list new) where
    was_heard : (q : ℕ) → map.get old q ≡ cond (has list q) None (map.get new q)
    was_heard q = ap (λ m. map.get m q) (sym a.back) ∙ get-forgotten new list q

    alike_at : (q : ℕ) (b : Bool) → has list q ≡ b → cond (has ids q) (heard_as now q (map.get s.sessions q) (map.get new q)) (map.get new q) ≡ cond (has ids q) (heard_as now q (map.get s.sessions q) (map.get old q)) (map.get old q)
    alike_at q true e = both_heard q (has ids q) (map.get s.sessions q) (map.get new q) (map.get old q) (a.among q e).0 (a.among q e).1
    alike_at q false e = ap (λ o. cond (has ids q) (heard_as now q (map.get s.sessions q) o) o) (sym (was_heard q ∙ ap (λ b. cond b None (map.get new q)) e))

    pub heard_alike : hear_all now s new ids ≡ hear_all now s old ids
    heard_alike = same _ _ (λ q. get-hear_all new ids q ∙ alike_at q (has list q) refl ∙ sym (get-hear_all old ids q))
