-- A load, line by line.
use Rattle.std.proofs.Common.{◌≡◌, ◌<◌, ◌≤◌, ◌+◌, ◌-◌, ℕ, zero, suc, Bool, true, false, cond, List, [], ◌∷◌, ◌++◌, length, take, Option, Some, None, refl, sym, ap, subst, ◌∙◌, arith, length-append, leb-true, leb-false, le-leb}
use Rattle.std.specs.Prelude.{nat_lt, nat_le, ◌==◌}
use Rattle.std.proofs.lemmas.Bool.Decides.{nat_tests}
use Rattle.std.proofs.lemmas.Grind.{common_steps}
use Rattle.kp_model.specs.State.{State}
use Rattle.kp_model.specs.LogEntry.{LogEntry}
use Rattle.kp_model.specs.declared.reply.Reply.{Reply}
use Rattle.kp_model.specs.declared.entry.Body.{Body}
use Rattle.kp_model.specs.Store.{Store, last, kept, commit_leaves, truncated}
use Rattle.kp_model.proofs.Applied.{applied-apply}
use Rattle.kp_text.specs.declared.line.StoreLine.{StoreLine}
use Rattle.kp_text.specs.declared.line.StoreLine.TheVariants.{Time, Open, Attach, Expire, Noop, Write, Raw, Commit, Truncate, Peek, See, Kids, Ls, Acl, Who}
use Rattle.kp_load.specs.Load.{Load, Next, opening, line_in, next_number, after}
use Rattle.kp_top.specs.declared.tally.Tally.{Tally}
use Rattle.kp_top.specs.Transcript.{Work, Turn, blank, looks, turn, entered, committed, cut}
use Rattle.kp_top.specs.Texts.{cut_text}
use Rattle.kp_top.specs.Loading.{IsWithin, Loading, nothing, is_good, with_entry_kept, counted, taken, drawn, commits, settled, loaded}
use Rattle.kp_top.proofs.Runs.{last_turn, blank_last}
use lib.Chars.{codes}

-- ---- what is left to be done

abbrev pub rest_by : Bool → ℕ → ℕ → Loading → Loading
rest_by true k x s = settled (drawn k x (taken opening s))
rest_by false k x s = settled (drawn k x s)

-- a load behind its lines so far
abbrev pub rest_of : Load → Loading → Loading
rest_of l s = rest_by l.opens l.left l.number s

abbrev pub steps : Bool → ℕ
steps true = 2
steps false = 0

-- how many lines are left at most
abbrev pub lines_left : Load → List LogEntry → ℕ
lines_left l us = steps l.opens + (l.left + l.left) + length us

abbrev unapplied : Loading → List LogEntry
unapplied s = s.work.store.unapplied

some_is : {A : Type 0} (x y : A) → Some x ≡ Some y → x ≡ y
some_is x y e = cc

no_line : (x : StoreLine) → None ≡ Some x → ⊥
no_line x e = absurd (cc)

-- ---- a line adds one entry at most

either_few : (b : Bool) (x y : Turn) (n : ℕ) → length x.work.store.unapplied ≤ n → length y.work.store.unapplied ≤ n → length (cond b x y).work.store.unapplied ≤ n
either_few true x y n p q = p
either_few false x y n p q = q

enters_one : (w : Work) (b : Body) → length (entered w b).work.store.unapplied ≤ length w.store.unapplied + 1
unfolding entered
enters_one w b = omega (arith, length-append w.store.unapplied (record { term = 0; time = w.time; body = b } ∷ []))

fewer : (s : State) (us : List LogEntry) → length (commit_leaves s us).unapplied ≤ length us
unfolding commit_leaves
fewer s [] = omega arith
fewer s (u ∷ us) = omega arith

one_less : (s : State) (us : List LogEntry) → length us ≤ length (commit_leaves s us).unapplied + 1
unfolding commit_leaves
one_less s [] = omega arith
one_less s (u ∷ us) = omega arith

cuts_few : (w : Work) (k : ℕ) → length (cut w k).work.store.unapplied ≤ length w.store.unapplied
unfolding cut
cuts_few w k =
    let kept : Turn = record { text = cut_text k; work = record w { store = truncated w.store k } } in
    let shorter : length (take (k - w.store.state.applied) w.store.unapplied) ≤ length w.store.unapplied = grind (arith, common_steps) in
    either_few _ kept (looks w (codes "cut refused")) (length w.store.unapplied) shorter (omega arith)

pub few : (w : Work) (n : ℕ) (l : StoreLine) → length (turn w n l).work.store.unapplied ≤ length w.store.unapplied + 1
unfolding turn committed
few w n (Time t) = omega arith
few w n (Open timeout passwd) = enters_one w _
few w n (Attach session passwd) = enters_one w _
few w n (Expire session) = enters_one w _
few w n Noop = enters_one w _
few w n (Write session c) = enters_one w _
few w n (Raw session epoch seq c) = enters_one w _
few w n Commit = omega (arith, fewer w.store.state w.store.unapplied)
few w n (Truncate k) = omega (arith, cuts_few w k)
few w n (Peek path) = omega arith
few w n (See path) = omega arith
few w n (Kids path) = omega arith
few w n (Ls path) = omega arith
few w n (Acl path) = omega arith
few w n (Who session) = omega arith

-- ---- the counts stay within the number of lines

either_within : (b : Bool) (n last : ℕ) (x y : Tally) → IsWithin n last x → IsWithin n last y → IsWithin n last (cond b x y)
either_within true n last x y p q = p
either_within false n last x y p q = q

one_more_line : (n last next : ℕ) (t : Tally) → next ≤ last + 1 → IsWithin n last t → IsWithin (n + 1) next t
one_more_line n last next t le h = record {
  made = omega (arith, h.made);
  good = omega (arith, h.good);
  bad = omega (arith, h.bad);
  done = omega (arith, h.done);
  cut = omega (arith, h.cut, le);
}

entry_within : (n last next : ℕ) (r : Option Reply) (t : Tally) → next ≤ last + 1 → IsWithin n last t → IsWithin (n + 1) next (with_entry_kept r t)
entry_within n last next r t le h = either_within (is_good r) (n + 1) next _ _
    (record { made = omega (arith, h.made); good = omega (arith, h.good); bad = omega (arith, h.bad); done = omega (arith, h.done); cut = omega (arith, h.cut, le) })
    (record { made = omega (arith, h.made); good = omega (arith, h.good); bad = omega (arith, h.bad); done = omega (arith, h.done); cut = omega (arith, h.cut, le) })

either_last : (b : Bool) (x y : Turn) (n : ℕ) → last x.work.store ≤ n → last y.work.store ≤ n → last (cond b x y).work.store ≤ n
either_last true x y n p q = p
either_last false x y n p q = q

cut_last : (w : Work) (k : ℕ) → last (cut w k).work.store ≤ last w.store
unfolding cut
cut_last w k =
    let kept : Turn = record { text = cut_text k; work = record w { store = truncated w.store k } } in
    let shorter : length (take (k - w.store.state.applied) w.store.unapplied) ≤ length w.store.unapplied = grind (arith, common_steps) in
    either_last _ kept (looks w (codes "cut refused")) (last w.store) (omega (arith, shorter)) (omega arith)

last_commit : (w : Work) (n : ℕ) → last (commit_leaves w.store.state w.store.unapplied) ≤ last w.store + 1
unfolding turn committed
last_commit w n = last_turn w n Commit

commit_within : (w : Work) (n : ℕ) (t : Tally) → IsWithin n (last w.store) t
    → IsWithin (n + 1) (last (turn w n Commit).work.store) (counted Commit w.store (turn w n Commit).work.store t)
unfolding turn counted committed
commit_within w n t h =
    let few = one_less w.store.state w.store.unapplied in
    let le : last (commit_leaves w.store.state w.store.unapplied) ≤ last w.store + 1 = last_commit w n in
    record { made = omega (arith, h.made); good = omega (arith, h.good); bad = omega (arith, h.bad); done = omega (arith, h.done, few); cut = omega (arith, h.cut, le) }

cut_within : (w : Work) (n k : ℕ) (t : Tally) → IsWithin n (last w.store) t
    → IsWithin (n + 1) (last (turn w n (Truncate k)).work.store) (counted (Truncate k) w.store (turn w n (Truncate k)).work.store t)
unfolding turn counted
cut_within w n k t h =
    let le = cut_last w k in
    record { made = omega (arith, h.made); good = omega (arith, h.good); bad = omega (arith, h.bad); done = omega (arith, h.done); cut = omega (arith, h.cut, le) }

pub within_next : (w : Work) (n : ℕ) (x : StoreLine) (t : Tally) → IsWithin n (last w.store) t
    → IsWithin (n + 1) (last (turn w n x).work.store) (counted x w.store (turn w n x).work.store t)
unfolding counted
within_next w n (Time m) t h = one_more_line n _ _ t (last_turn w n (Time m)) h
within_next w n (Open timeout passwd) t h = entry_within n _ _ _ t (last_turn w n (Open timeout passwd)) h
within_next w n (Attach session passwd) t h = one_more_line n _ _ t (last_turn w n (Attach session passwd)) h
within_next w n (Expire session) t h = one_more_line n _ _ t (last_turn w n (Expire session)) h
within_next w n Noop t h = one_more_line n _ _ t (last_turn w n Noop) h
within_next w n (Write session c) t h = entry_within n _ _ _ t (last_turn w n (Write session c)) h
within_next w n (Raw session epoch seq c) t h = one_more_line n _ _ t (last_turn w n (Raw session epoch seq c)) h
within_next w n Commit t h = commit_within w n t h
within_next w n (Truncate k) t h = cut_within w n k t h
within_next w n (Peek path) t h = one_more_line n _ _ t (last_turn w n (Peek path)) h
within_next w n (See path) t h = one_more_line n _ _ t (last_turn w n (See path)) h
within_next w n (Kids path) t h = one_more_line n _ _ t (last_turn w n (Kids path)) h
within_next w n (Ls path) t h = one_more_line n _ _ t (last_turn w n (Ls path)) h
within_next w n (Acl path) t h = one_more_line n _ _ t (last_turn w n (Acl path)) h
within_next w n (Who session) t h = one_more_line n _ _ t (last_turn w n (Who session)) h

-- ---- one line

settled_next : (s : Loading) (us : List LogEntry) → unapplied s ≡ us → 0 < length us → settled s ≡ settled (taken Commit s)
unfolding commits taken turn committed commit_leaves
settled_next s [] same some = absurd (omega (arith, some))
settled_next s (u ∷ us) same some =
    ap (λ (vs : List LogEntry). commits (length vs) s) same
    ∙ ap (λ (vs : List LogEntry). commits (length (commit_leaves s.work.store.state vs).unapplied) (taken Commit s)) (sym same)

settled_now : (s : Loading) → length (unapplied s) ≡ 0 → settled s ≡ s
unfolding commits
settled_now s none = ap (λ (k : ℕ). commits k s) none

end_by : (b : Bool) (s : Loading) (x : StoreLine) → nat_lt s.work.store.state.applied (last s.work.store) ≡ b → cond b (Some Commit) None ≡ Some x → settled s ≡ settled (taken x s)
end_by false s x lt e = absurd (no_line x e)
end_by true s x lt e =
    let some : 0 < length (unapplied s) = omega (arith, leb-true _ _ lt) in
    settled_next s (unapplied s) refl some ∙ ap (λ (y : StoreLine). settled (taken y s)) (some_is Commit x e)

nonzero : (k : ℕ) → (suc k == 0) ≡ false
nonzero k = grind (arith, nat_tests)

next_drawn : ℕ → ℕ → ℕ → ℕ → Next
next_drawn m x a l = record { line = Some (line_in x a l); rest = record { opens = false; left = m; number = x } }

-- a line is drawn where some are left
drawn_line : (k number a l : ℕ) → after (record { opens = false; left = suc k; number = number }) a l ≡ next_drawn k (next_number number) a l
unfolding after next_drawn
drawn_line k number a l =
    let less : suc k - 1 ≡ k = omega arith in
    ap (λ (b : Bool). cond b (record { line = cond (nat_lt a l) (Some Commit) None; rest = record { opens = false; left = suc k; number = number } }) (next_drawn (suc k - 1) (next_number number) a l)) (nonzero k)
    ∙ ap (λ (m : ℕ). next_drawn m (next_number number) a l) less

one_line : (opens : Bool) (left number : ℕ) (s : Loading) (x : StoreLine)
    → (after (record { opens = opens; left = left; number = number }) s.work.store.state.applied (last s.work.store)).line ≡ Some x
    → rest_by opens left number s ≡ rest_of (after (record { opens = opens; left = left; number = number }) s.work.store.state.applied (last s.work.store)).rest (taken x s)
unfolding after drawn next_drawn
one_line true left number s x e = ap (λ (y : StoreLine). settled (drawn left number (taken y s))) (some_is opening x e)
one_line false zero number s x e = end_by _ s x refl e
one_line false (suc k) number s x e =
    let is = drawn_line k number s.work.store.state.applied (last s.work.store) in
    let line : Some (line_in (next_number number) s.work.store.state.applied (last s.work.store)) ≡ Some x = sym (ap (λ (n : Next). n.line) is) ∙ e in
    ap (λ (y : StoreLine). settled (drawn k (next_number number) (taken y s))) (some_is _ x line)
    ∙ ap (λ (n : Next). rest_of n.rest (taken x s)) (sym is)

pub next_line : (l : Load) (s : Loading) (x : StoreLine) → (after l s.work.store.state.applied (last s.work.store)).line ≡ Some x
    → rest_of l s ≡ rest_of (after l s.work.store.state.applied (last s.work.store)).rest (taken x s)
next_line l s x e = one_line l.opens l.left l.number s x e

stop_by : (b : Bool) (s : Loading) → nat_lt s.work.store.state.applied (last s.work.store) ≡ b → cond b (Some Commit) None ≡ None → settled s ≡ s
stop_by true s lt e = absurd (no_line Commit (sym e))
stop_by false s lt e = settled_now s (omega (arith, leb-false _ _ lt))

stopped : (opens : Bool) (left number : ℕ) (s : Loading)
    → (after (record { opens = opens; left = left; number = number }) s.work.store.state.applied (last s.work.store)).line ≡ None
    → rest_by opens left number s ≡ s
unfolding after drawn next_drawn
stopped true left number s e = absurd (no_line opening (sym e))
stopped false zero number s e = stop_by _ s refl e
stopped false (suc k) number s e =
    let is = drawn_line k number s.work.store.state.applied (last s.work.store) in
    absurd (no_line (line_in (next_number number) s.work.store.state.applied (last s.work.store)) (sym e ∙ ap (λ (n : Next). n.line) is))

pub no_more : (l : Load) (s : Loading) → (after l s.work.store.state.applied (last s.work.store)).line ≡ None → rest_of l s ≡ s
no_more l s e = stopped l.opens l.left l.number s e

-- ---- each line leaves fewer

commit_fewer : (w : Work) (n : ℕ) (us : List LogEntry) → w.store.unapplied ≡ us → 0 < length us → length (turn w n Commit).work.store.unapplied < length w.store.unapplied
unfolding turn committed commit_leaves
commit_fewer w n [] same some = absurd (omega (arith, some))
commit_fewer w n (u ∷ us) same some =
    subst (λ (vs : List LogEntry). length (commit_leaves w.store.state vs).unapplied < length vs) (sym same) (omega arith)

fewer_by : (b : Bool) (w : Work) (n : ℕ) (x : StoreLine) → nat_lt w.store.state.applied (last w.store) ≡ b → cond b (Some Commit) None ≡ Some x
    → length (turn w n x).work.store.unapplied < length w.store.unapplied
fewer_by false w n x lt e = absurd (no_line x e)
fewer_by true w n x lt e =
    subst (λ (y : StoreLine). length (turn w n y).work.store.unapplied < length w.store.unapplied) (some_is Commit x e)
    (commit_fewer w n w.store.unapplied refl (omega (arith, leb-true _ _ lt)))

fewer_line : (opens : Bool) (left number : ℕ) (w : Work) (n : ℕ) (x : StoreLine)
    → (after (record { opens = opens; left = left; number = number }) w.store.state.applied (last w.store)).line ≡ Some x
    → lines_left (after (record { opens = opens; left = left; number = number }) w.store.state.applied (last w.store)).rest (turn w n x).work.store.unapplied
    < lines_left (record { opens = opens; left = left; number = number }) w.store.unapplied
unfolding after next_drawn
fewer_line true left number w n x e = omega (arith, few w n x)
fewer_line false zero number w n x e = omega (arith, fewer_by _ w n x refl e)
fewer_line false (suc k) number w n x e =
    let left = ap (λ (m : Next). lines_left m.rest (turn w n x).work.store.unapplied) (drawn_line k number w.store.state.applied (last w.store)) in
    omega (arith, left, few w n x)

pub fewer_left : (l : Load) (w : Work) (n : ℕ) (x : StoreLine) → (after l w.store.state.applied (last w.store)).line ≡ Some x
    → lines_left (after l w.store.state.applied (last w.store)).rest (turn w n x).work.store.unapplied < lines_left l w.store.unapplied
fewer_left l w n x e = fewer_line l.opens l.left l.number w n x e

-- ---- the run

pub begins : (l : Load) (w : Work) (t : Tally) → w ≡ blank → t ≡ nothing → l.opens ≡ true → rest_of l (record { work = w; n = 1; tally = t }) ≡ loaded l.number l.left
unfolding loaded
begins l w t empty none opens =
    ap (λ (b : Bool). rest_by b l.left l.number (record { work = w; n = 1; tally = t })) opens
    ∙ ap (λ (x : Work). settled (drawn l.left l.number (taken opening (record { work = x; n = 1; tally = t })))) empty
    ∙ ap (λ (u : Tally). settled (drawn l.left l.number (taken opening (record { work = blank; n = 1; tally = u })))) none

first_within : IsWithin 1 (last blank.store) nothing
first_within = record { made = omega arith; good = omega arith; bad = omega arith; done = omega arith; cut = omega (arith, blank_last) }

pub begins_within : (w : Work) (t : Tally) → w ≡ blank → t ≡ nothing → IsWithin 1 (last w.store) t
begins_within w t empty none =
    subst (λ (x : Work). IsWithin 1 (last x.store) t) (sym empty) (subst (λ (u : Tally). IsWithin 1 (last blank.store) u) (sym none) first_within)

pub begins_few : (l : Load) (w : Work) → w ≡ blank → l.opens ≡ true → l.left ≤ 4294967295 → 1 + lines_left l w.store.unapplied ≤ 8589934593
begins_few l w empty opens few =
    let two : steps l.opens ≡ 2 = ap steps opens in
    let none : length w.store.unapplied ≡ 0 = ap (λ (x : Work). length x.store.unapplied) empty in
    omega (arith, two, none, few)

module _ (l m : Load) (w v : Work) (n : ℕ) (t u : Tally) (x : StoreLine)
    (is : (after l w.store.state.applied (last w.store)).line ≡ Some x) (left : m ≡ (after l w.store.state.applied (last w.store)).rest)
    (work : v ≡ (turn w n x).work) (tally : u ≡ counted x w.store v.store t) where
  -- what is left behind a line
  pub goes_on : (all : Loading) → rest_of l (record { work = w; n = n; tally = t }) ≡ all → rest_of m (record { work = v; n = n + 1; tally = u }) ≡ all
  unfolding taken
  goes_on all rest =
      let s : Loading = record { work = w; n = n; tally = t } in
      let same : record { work = v; n = n + 1; tally = u } ≡ taken x s =
      ap (λ (y : Work). record { work = y; n = n + 1; tally = u }) work
      ∙ ap (λ (z : Tally). record { work = (turn w n x).work; n = n + 1; tally = z }) (tally ∙ ap (λ (y : Work). counted x w.store y.store t) work) in
      ap (λ (y : Loading). rest_of m y) same ∙ ap (λ (k : Load). rest_of k (taken x s)) left ∙ sym (next_line l s x is) ∙ rest

  pub goes_within : IsWithin n (last w.store) t → IsWithin (n + 1) (last v.store) u
  goes_within h =
      subst (λ (z : Tally). IsWithin (n + 1) (last v.store) z) (sym tally)
      (subst (λ (y : Work). IsWithin (n + 1) (last y.store) (counted x w.store y.store t)) (sym work) (within_next w n x t h))

  pub goes_down : lines_left m v.store.unapplied < lines_left l w.store.unapplied
  goes_down =
      subst (λ (k : Load). lines_left k v.store.unapplied < lines_left l w.store.unapplied) (sym left)
      (subst (λ (y : Work). lines_left (after l w.store.state.applied (last w.store)).rest y.store.unapplied < lines_left l w.store.unapplied) (sym work) (fewer_left l w n x is))

pub ends : (l : Load) (w : Work) (n : ℕ) (t : Tally) (all : Loading) → (after l w.store.state.applied (last w.store)).line ≡ None
    → rest_of l (record { work = w; n = n; tally = t }) ≡ all → record { work = w; n = n; tally = t } ≡ all
ends l w n t all none rest = sym (no_more l (record { work = w; n = n; tally = t }) none) ∙ rest
