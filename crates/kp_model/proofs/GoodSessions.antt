-- Bodies and commands on sessions keep a good state good.
use Rattle.std.proofs.Common.{◌≡◌, ℕ, ◌+◌, ◌≤◌, Bool, true, false, not, ◌||◌, cond, List, length, Option, Some, None, IsTrue, refl, arith, leb-false, le-leb}
use Rattle.std.specs.Prelude.{nat_le}
use Rattle.std.specs.List.{list_any}
use Rattle.std.specs.Str.{bytes_eq}
use Rattle.std.specs.FinMap as map
use Rattle.kp_model.specs.declared.session.Session.{Session}
use Rattle.kp_model.specs.declared.session.Origin.{Origin}
use Rattle.kp_model.specs.Grammar.{is_number, is_timeout, is_origin}
use Rattle.kp_model.specs.State.{State, is_held}
use Rattle.kp_model.specs.Step.{Outcome, with_id, renewed, shows, new_session, opened, taken_over, joined, attached_to, expired, with_seq}
use Rattle.kp_model.specs.Good.{IsGoodSession, IsGood}
use Rattle.kp_model.proofs.Maps.{none_of}
use Rattle.kp_model.proofs.GoodParts.{session_set_good}
use Rattle.kp_model.proofs.GoodClosing.{closed_good}

pub chosen_good : (b : Bool) (x y : Outcome) → IsGood x.state → (b ≡ false → IsGood y.state) → IsGood (cond b x y).state
chosen_good true x y p q = p
chosen_good false x y p q = q refl

-- ---- a session is opened

new_session_good : (next timeout : ℕ) (passwd : List ℕ) (origin : Origin) → 1 ≤ next → IsTrue (is_timeout timeout) → IsTrue (is_origin origin) → length passwd ≡ 16
    → IsGoodSession (next + 1) next (new_session timeout passwd origin)
new_session_good next timeout passwd origin some fine known sixteen = record {
  given = some;
  below = omega arith;
  timeout = fine;
  passwd = sixteen;
  epoch = refl;
  seq = refl;
  holder = known;
}

pub opened_good : (s : State) (timeout : ℕ) (passwd : List ℕ) (origin : Origin) → IsTrue (is_timeout timeout) → IsTrue (is_origin origin) → length passwd ≡ 16
    → IsGood s → IsGood (opened s timeout passwd origin).state
unfolding opened
opened_good s timeout passwd origin fine known sixteen good =
    chosen_good (is_held s.sessions origin || nat_le 4611686018427387904 s.next) _ _ good
    (λ e. session_set_good s (s.next + 1) s.next (new_session timeout passwd origin)
    (le-leb _ _ (omega (arith, leb-false 4611686018427387904 s.next (none_of _ _ e).1))) (omega arith)
    (new_session_good s.next timeout passwd origin good.some fine known sixteen) good)

-- ---- a session is taken over

taken_over_good : (next id : ℕ) (origin : Origin) (x : Session) → nat_le 4611686018427387904 x.epoch ≡ false → IsTrue (is_origin origin)
    → IsGoodSession next id x → IsGoodSession next id (taken_over origin x)
taken_over_good next id origin x room known h = record {
  given = h.given;
  below = h.below;
  timeout = h.timeout;
  passwd = h.passwd;
  epoch = le-leb _ _ (omega (arith, leb-false 4611686018427387904 x.epoch room));
  seq = refl;
  holder = known;
}

joined_good : (x : Session) (s : State) (session : ℕ) (origin : Origin) → map.get s.sessions session ≡ Some x → IsTrue (is_origin origin)
    → IsGood s → IsGood (joined x s session origin).state
joined_good x s session origin found known good =
    chosen_good (is_held s.sessions origin || nat_le 4611686018427387904 x.epoch) _ _ good
    (λ e. session_set_good s s.next session (taken_over origin x) good.next (omega arith)
    (taken_over_good s.next session origin x (none_of _ _ e).1 known (good.sessions session x found)) good)

pub attached_good : (o : Option Session) (s : State) (session : ℕ) (passwd : List ℕ) (origin : Origin) → map.get s.sessions session ≡ o → IsTrue (is_origin origin)
    → IsGood s → IsGood (attached_to o s session passwd origin).state
attached_good None s session passwd origin found known good = good
attached_good (Some x) s session passwd origin found known good =
    chosen_good (not (bytes_eq x.passwd passwd)) _ _ good (λ _. joined_good x s session origin found known good)

-- ---- a session ends

pub expired_good : (o : Option Session) (s : State) (session : ℕ) → map.get s.sessions session ≡ o → IsGood s → IsGood (expired o s s.applied session).state
expired_good None s session found good = good
expired_good (Some x) s session found good = closed_good s session (good.sessions session x found).given good

-- ---- a session has shown an id

session_chosen : (next id : ℕ) (b : Bool) (x y : Session) → IsGoodSession next id x → IsGoodSession next id y → IsGoodSession next id (cond b x y)
session_chosen next id true x y p q = p
session_chosen next id false x y p q = q

with_ids_good : (next id : ℕ) (ids : List (List ℕ)) (x : Session) → IsGoodSession next id x → IsGoodSession next id (record x { ids = ids })
with_ids_good next id ids x h = record {
  given = h.given;
  below = h.below;
  timeout = h.timeout;
  passwd = h.passwd;
  epoch = h.epoch;
  seq = h.seq;
  holder = h.holder;
}

with_id_good : (next id : ℕ) (shown : List ℕ) (x : Session) → IsGoodSession next id x → IsGoodSession next id (with_id shown x)
with_id_good next id shown x h = session_chosen next id (list_any (bytes_eq shown) x.ids) x _ h (with_ids_good next id _ x h)

-- where the session is there, and also where it isn't
renewed_good : (s : State) (session : ℕ) (shown : List ℕ) (o : Option Session) → map.get s.sessions session ≡ o
    → IsGood s → IsGood (record s { sessions = renewed (with_id shown) session o s.sessions })
renewed_good s session shown None found good = good
renewed_good s session shown (Some x) found good =
    session_set_good s s.next session (with_id shown x) good.next (omega arith) (with_id_good s.next session shown x (good.sessions session x found)) good

pub shows_good : (s : State) (session : ℕ) (o : Option (List ℕ)) → IsGood s → IsGood (shows s session o).state
shows_good s session None good = good
shows_good s session (Some shown) good = renewed_good s session shown _ refl good

-- ---- the running number of a session rises

pub with_seq_good : (next id seq : ℕ) (x : Session) → IsTrue (is_number seq) → IsGoodSession next id x → IsGoodSession next id (with_seq seq x)
with_seq_good next id seq x number h = record {
  given = h.given;
  below = h.below;
  timeout = h.timeout;
  passwd = h.passwd;
  epoch = h.epoch;
  seq = number;
  holder = h.holder;
}
