-- What disks hold is something that a crash now may leave.
use Rattle.std.proofs.Common.{◌≡◌, ⊎_elim, ℕ, ◌+◌, ◌≤◌, List, Option, Some, None, Result, Ok, Err, refl, sym, ◌∙◌, ap, subst, arith}
use Rattle.std.specs.Prelude.{OnOk, OnErr}
use Rattle.std.specs.Option.{option_map}
use Rattle.kp_io.specs.Crash.{Past, MayLeave, LeavesIf, IsSettled, IsLeft, IsNotedOrNot, HasRoom, synced, unsynced}
use Rattle.kp_io.specs.Faults.{one_more}
use Rattle.kp_io.specs.declared.home.Four.{Four}
use Rattle.kp_io.proofs.Leaving.{up_to_more, wear_now}
use Rattle.kp_io.proofs.Wears.{settled_left}
use Rattle.kp_journal.proofs.Leaving.{sync_left}
use Rattle.kp_homes.specs.Slots.{LeavesTwoIf}
use Rattle.kp_homes.specs.Stands.{Bytes4, HomeLeft, LeftIf, IsRest, IsAtRest}
use Rattle.kp_homes.specs.Opening.{AreSound, AreTold, Holds, IsSound, IsTold, LeftNow, LeftNowIf}
use Rattle.kp_homes.specs.Reading.{IsUntouched}

-- ---- one disk

-- nothing is unsynced
pub rest_left_now : (m : ℕ) (xs : List ℕ) (held : Option (List ℕ)) (past : Option Past) → IsRest m xs held past → IsLeft past held
rest_left_now m xs held past r =
    let is : IsSettled m xs (Some r.told) = subst (λ (o : Option Past). IsSettled m xs o) r.tells r.rests in
    subst (λ (o : Option Past). IsLeft o held) (sym r.tells)
    (subst (λ (h : Option (List ℕ)). IsLeft (Some r.told) h) (sym r.holds) (subst (λ w. MayLeave w xs) (sym is.0) (settled_left xs)))

-- while other disks are called
pub rest_sound : (m m' : ℕ) (xs : List ℕ) (held : Option (List ℕ)) (past : Option Past) → m ≤ m' → IsRest m xs held past → IsSound m' held past
rest_sound m m' xs held past le r =
    let is : IsSettled m xs (Some r.told) = subst (λ (o : Option Past). IsSettled m xs o) r.tells r.rests in
    record { told = r.told; tells = r.tells; up_to = up_to_more m m' r.told.notes le is.1; left = rest_left_now m xs held past r }

pub told_sound : (m m' : ℕ) (xs : List ℕ) (held : Option (List ℕ)) (past : Option Past) → m ≤ m' → IsTold m xs held past → LeftNowIf past xs → IsSound m' held past
told_sound m m' xs held past le t left =
    let here : MayLeave t.told.now xs = subst (λ (o : Option Past). LeftNowIf o xs) t.tells left in
    record {
      told = t.told;
      tells = t.tells;
      up_to = up_to_more m m' t.told.notes le t.up_to;
      left = subst (λ (o : Option Past). IsLeft o held) (sym t.tells) (subst (λ (h : Option (List ℕ)). IsLeft (Some t.told) h) (sym t.holds) here);
    }

pub sound_later : (m m' : ℕ) (held : Option (List ℕ)) (past : Option Past) → m ≤ m' → IsSound m held past → IsSound m' held past
sound_later m m' held past le s = record { told = s.told; tells = s.tells; up_to = up_to_more m m' s.told.notes le s.up_to; left = s.left }

told_after : (m0 m : ℕ) (Q : List ℕ → Type 0) (held : Option (List ℕ)) (p : Past) (new : Option Past) → LeavesIf m0 m Q (Some p) new → IsLeft new held → IsSound m held new
told_after m0 m Q held p None run left = absurd run
told_after m0 m Q held p (Some q) run left = record { told = q; tells = refl; up_to = run.up_to; left = left }

-- behind a run of calls
pub run_sound : (m0 m : ℕ) (Q : List ℕ → Type 0) (xs : List ℕ) (held held' : Option (List ℕ)) (old new : Option Past) → IsRest m0 xs held old → LeavesIf m0 m Q old new → (IsLeft old held → IsLeft new held') → IsSound m held' new
run_sound m0 m Q xs held held' old new r run left =
    told_after m0 m Q held' r.told new (subst (λ (o : Option Past). LeavesIf m0 m Q o new) r.tells run) (left (rest_left_now m0 xs held old r))

two_after : (m0 m : ℕ) (Q : List ℕ → List ℕ → Type 0) (hj hi : Option (List ℕ)) (p q : Past) (nj ni : Option Past) → LeavesTwoIf m0 m Q (Some p) (Some q) nj ni → IsLeft nj hj → IsLeft ni hi → IsSound m hj nj × IsSound m hi ni
two_after m0 m Q hj hi p q None ni two lj li = absurd two
two_after m0 m Q hj hi p q (Some nj) None two lj li = absurd two
two_after m0 m Q hj hi p q (Some nj) (Some ni) two lj li =
    (record { told = nj; tells = refl; up_to = two.up_to_j; left = lj }, record { told = ni; tells = refl; up_to = two.up_to_i; left = li })

-- behind a run of calls of two disks
pub two_sound : (m0 m : ℕ) (Q : List ℕ → List ℕ → Type 0) (xj xi : List ℕ) (hj hi hj' hi' : Option (List ℕ)) (oj oi nj ni : Option Past) → IsRest m0 xj hj oj → IsRest m0 xi hi oi → LeavesTwoIf m0 m Q oj oi nj ni
    → (IsLeft oj hj → IsLeft nj hj') → (IsLeft oi hi → IsLeft ni hi') → IsSound m hj' nj × IsSound m hi' ni
two_sound m0 m Q xj xi hj hi hj' hi' oj oi nj ni rj ri two lj li =
    two_after m0 m Q hj' hi' rj.told ri.told nj ni
    (subst (λ (o : Option Past). LeavesTwoIf m0 m Q o (Some ri.told) nj ni) rj.tells (subst (λ (o : Option Past). LeavesTwoIf m0 m Q oj o nj ni) ri.tells two))
    (lj (rest_left_now m0 xj hj oj rj)) (li (rest_left_now m0 xi hi oi ri))

-- behind a sync, whatever it answered
pub settle_sound : {T E : Type 0} (r : Result T E) (m mo m' : ℕ) (xs : List ℕ) (held held' : Option (List ℕ)) (old new : Option Past) → OnOk r (held' ≡ held) → ((ys : List ℕ) → held ≡ Some ys → OnOk r (new ≡ option_map (synced m' ys) old))
    → OnErr r (IsNotedOrNot (unsynced m') old new) → IsLeft old held' → m' ≡ one_more mo → IsTold m xs held old → m ≤ mo → IsSound m' held' new
settle_sound {T} {E} (Ok x) m mo m' xs held held' old new keeps past err was is t le =
    let later : m ≤ m' = omega (arith, le, is) in
    record {
      told = synced m' xs t.told;
      tells = past xs t.holds ∙ ap (option_map (synced m' xs)) t.tells;
      up_to = (omega arith, up_to_more m m' t.told.notes later t.up_to);
      left = sync_left {T = T} {E = E} (Ok x) m' held held' old new keeps past err was;
    }
settle_sound {T} {E} (Err e) m mo m' xs held held' old new keeps past err was is t le =
    let later : m ≤ m' = omega (arith, le, is) in
    let here : IsLeft new held' = sync_left {T = T} {E = E} (Err e) m' held held' old new keeps past err was in
    ⊎_elim (λ noted. record {
      told = unsynced m' t.told;
      tells = noted ∙ ap (option_map (unsynced m')) t.tells;
      up_to = (omega arith, up_to_more m m' t.told.notes later t.up_to);
      left = here;
    })
    (λ same. record { told = t.told; tells = same ∙ t.tells; up_to = up_to_more m m' t.told.notes later t.up_to; left = here }) err

-- ---- a home

pub rests_sound : {H : Type 0} (held : H → Option (List ℕ)) (past : H → Option Past) (home : Four H) (b : Bytes4) → IsAtRest held past home b → AreSound held past home
rests_sound held past home b r = record {
  on_j0 = rest_sound _ _ b.j0 _ _ (omega arith) r.at_j0;
  on_j1 = rest_sound _ _ b.j1 _ _ (omega arith) r.at_j1;
  on_i0 = rest_sound _ _ b.i0 _ _ (omega arith) r.at_i0;
  on_i1 = rest_sound _ _ b.i1 _ _ (omega arith) r.at_i1;
}

sound_as : (m m' : ℕ) (held held' : Option (List ℕ)) (past past' : Option Past) → m ≤ m' → held' ≡ held → past' ≡ past → IsSound m held past → IsSound m' held' past'
sound_as m m' held held' past past' le h p s = sound_later m m' held' past' le (subst (λ (o : Option (List ℕ)). IsSound m o past') (sym h) (subst (λ (o : Option Past). IsSound m held o) (sym p) s))

-- a home that was only read
pub untouched_sound : {H : Type 0} (held : H → Option (List ℕ)) (past : H → Option Past) (old new : Four H) → IsUntouched held past old new → old.moments ≤ new.moments → AreSound held past old → AreSound held past new
untouched_sound held past old new u le s = record {
  on_j0 = sound_as _ _ _ _ _ _ le u.held_j0 u.past_j0 s.on_j0;
  on_j1 = sound_as _ _ _ _ _ _ le u.held_j1 u.past_j1 s.on_j1;
  on_i0 = sound_as _ _ _ _ _ _ le u.held_i0 u.past_i0 s.on_i0;
  on_i1 = sound_as _ _ _ _ _ _ le u.held_i1 u.past_i1 s.on_i1;
}

-- a home that is closed
pub closed_sound : {H : Type 0} (held : H → Option (List ℕ)) (past : H → Option Past) (d d' : Four H) → d' ≡ d → (HasRoom d.moments → AreSound held past d) → HasRoom d'.moments → AreSound held past d'
closed_sound {H} held past d d' same sound room = subst (λ (x : Four H). AreSound held past x) (sym same) (sound (subst (λ (x : Four H). HasRoom x.moments) same room))

-- ---- what the disks hold now

may_leave : (m : ℕ) (xs : List ℕ) (held : Option (List ℕ)) (past : Option Past) (s : IsSound m held past) → held ≡ Some xs → MayLeave s.told.now xs
may_leave m xs held past s holds = subst (λ (h : Option (List ℕ)). IsLeft (Some s.told) h) holds (subst (λ (o : Option Past). IsLeft o held) s.tells s.left)

now_told_on : (m : ℕ) (xs : List ℕ) (held : Option (List ℕ)) (past : Option Past) → IsSound m held past → held ≡ Some xs → IsTold m xs held past
now_told_on m xs held past s holds = record { holds = holds; told = s.told; tells = s.tells; up_to = s.up_to }

now_left_on : (m : ℕ) (xs : List ℕ) (held : Option (List ℕ)) (past : Option Past) → IsSound m held past → held ≡ Some xs → LeftNowIf past xs
now_left_on m xs held past s holds = subst (λ (o : Option Past). LeftNowIf o xs) (sym s.tells) (may_leave m xs held past s holds)

next_left_on : (m : ℕ) (xs : List ℕ) (held : Option (List ℕ)) (past : Option Past) → IsSound m held past → held ≡ Some xs → LeftIf past (m + 1) xs
next_left_on m xs held past s holds =
    subst (λ (o : Option Past). LeftIf o (m + 1) xs) (sym s.tells) (subst (λ w. MayLeave w xs) (sym (wear_now m (m + 1) s.told.now s.told.notes s.up_to (omega arith))) (may_leave m xs held past s holds))

pub now_told : {H : Type 0} (held : H → Option (List ℕ)) (past : H → Option Past) (home : Four H) (c : Bytes4) → AreSound held past home → Holds held home c → AreTold held past home c
now_told held past home c s h = record {
  on_j0 = now_told_on _ c.j0 _ _ s.on_j0 h.on_j0;
  on_j1 = now_told_on _ c.j1 _ _ s.on_j1 h.on_j1;
  on_i0 = now_told_on _ c.i0 _ _ s.on_i0 h.on_i0;
  on_i1 = now_told_on _ c.i1 _ _ s.on_i1 h.on_i1;
}

pub now_left : {H : Type 0} (held : H → Option (List ℕ)) (past : H → Option Past) (home : Four H) (c : Bytes4) → AreSound held past home → Holds held home c → LeftNow past home c
now_left held past home c s h = record {
  on_j0 = now_left_on _ c.j0 _ _ s.on_j0 h.on_j0;
  on_j1 = now_left_on _ c.j1 _ _ s.on_j1 h.on_j1;
  on_i0 = now_left_on _ c.i0 _ _ s.on_i0 h.on_i0;
  on_i1 = now_left_on _ c.i1 _ _ s.on_i1 h.on_i1;
}

-- a crash at the next moment may leave it
pub next_left : {H : Type 0} (held : H → Option (List ℕ)) (past : H → Option Past) (home : Four H) (c : Bytes4) → AreSound held past home → Holds held home c → HomeLeft past home (home.moments + 1) c
next_left held past home c s h = record {
  on_j0 = next_left_on _ c.j0 _ _ s.on_j0 h.on_j0;
  on_j1 = next_left_on _ c.j1 _ _ s.on_j1 h.on_j1;
  on_i0 = next_left_on _ c.i0 _ _ s.on_i0 h.on_i0;
  on_i1 = next_left_on _ c.i1 _ _ s.on_i1 h.on_i1;
}
