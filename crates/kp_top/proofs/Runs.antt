-- A run, line by line.
use Rattle.std.proofs.Common.{◌≡◌, ◌<◌, ◌≤◌, ◌+◌, ◌-◌, ℕ, Bool, true, false, cond, List, [], ◌∷◌, ◌++◌, length, take, Option, Some, None, refl, sym, ap, subst, ◌∙◌, append_assoc, append-nil, arith, length-append}
use Rattle.std.specs.Prelude.{IfSome}
use Rattle.std.specs.Io.KnownBytes.{Keeps}
use Rattle.kp_model.specs.State.{State}
use Rattle.kp_model.specs.Store.{last, commit_leaves, truncated}
use Rattle.kp_model.proofs.Applied.{applied-apply}
use Rattle.kp_model.specs.LogEntry.{LogEntry}
use Rattle.kp_model.specs.declared.entry.Body.{Body}
use Rattle.kp_text.specs.declared.line.StoreLine.{StoreLine}
use Rattle.kp_text.specs.declared.line.StoreLine.TheVariants.{Time, Open, Attach, Expire, Noop, Write, Raw, Commit, Truncate, Peek, See, Kids, Ls, Acl, Who}
use Rattle.kp_text.specs.Lines.{line_of}
use Rattle.kp_top.specs.Transcript.{Work, blank, transcript, Turn, looks, turn, entered, committed, cut, printed, first_bad}
use Rattle.kp_top.specs.Run.{printed_line, TakenAs}
use Rattle.kp_top.specs.declared.taken.Taken.TheVariants as taken
use Rattle.kp_top.specs.InputLines.{lines_of}
use Rattle.kp_top.specs.Texts.{cut_text}
use Rattle.std.proofs.lemmas.Grind.{common_steps}
use lib.Chars.{codes}
use Rattle.kp_model.specs.State as state
use Rattle.kp_top.specs.Output.{Wrote, WrotePart}

-- what is printed from a line on
pub printed_next : (d : Work) (n : ℕ) (t : List ℕ) (ts : List (List ℕ)) (l : StoreLine) → line_of t ≡ Some l → printed d n (t ∷ ts) ≡ printed_line d n l ++ printed (turn d n l).work (n + 1) ts
unfolding printed
printed_next d n t ts l e = rw (e, printed)

pub printed_bad : (d : Work) (n : ℕ) (t : List ℕ) (ts : List (List ℕ)) → line_of t ≡ None → printed d n (t ∷ ts) ≡ []
unfolding printed
printed_bad d n t ts e = rw (e, printed)

pub printed_end : (d : Work) (n : ℕ) → printed d n [] ≡ []
unfolding printed
printed_end d n = refl

pub bad_next : (n : ℕ) (t : List ℕ) (ts : List (List ℕ)) (l : StoreLine) → line_of t ≡ Some l → first_bad n (t ∷ ts) ≡ first_bad (n + 1) ts
unfolding first_bad
bad_next n t ts l e = rw (e, first_bad)

pub bad_here : (n : ℕ) (t : List ℕ) (ts : List (List ℕ)) → line_of t ≡ None → first_bad n (t ∷ ts) ≡ Some n
unfolding first_bad
bad_here n t ts e = rw (e, first_bad)

pub bad_end : (n : ℕ) → first_bad n [] ≡ None
unfolding first_bad
bad_end n = refl

-- a piece more was written
pub wrote_piece : (old now next : Option (List ℕ)) (a b all : List ℕ) → Wrote old now (a ++ b) all → Wrote now next [] a → Wrote old next b all
wrote_piece None now next a b all w p = tt
wrote_piece (Some xs) None next a b all w p = absurd w
wrote_piece (Some xs) (Some ys) None a b all w p = absurd p
wrote_piece (Some xs) (Some ys) (Some zs) a b all w p = ap (λ l. l ++ b) (sym (append-nil zs) ∙ p) ∙ append_assoc ys a b ∙ w

pub wrote_some : (old now next : Option (List ℕ)) (a b all : List ℕ) → Wrote old now (a ++ b) all → WrotePart now next a → WrotePart old next all
wrote_some None now next a b all w p = ([], tt)
wrote_some (Some xs) None next a b all w p = absurd w
wrote_some (Some xs) (Some ys) None a b all w p = absurd p.1
wrote_some (Some xs) (Some ys) (Some zs) a b all w p = (p.0 ++ b, sym (append_assoc zs p.0 b) ∙ ap (λ l. l ++ b) p.1 ∙ append_assoc ys a b ∙ w)

pub wrote_kept : (old now next : Option (List ℕ)) (rest all : List ℕ) → Wrote old now rest all → Keeps now next → Wrote old next rest all
wrote_kept None now next rest all w k = tt
wrote_kept (Some xs) None next rest all w k = absurd w
wrote_kept (Some xs) (Some ys) None rest all w k = absurd k
wrote_kept (Some xs) (Some ys) (Some zs) rest all w k = ap (λ l. l ++ rest) k ∙ w

pub nothing_yet : (old : Option (List ℕ)) (all : List ℕ) → Wrote old old all all
nothing_yet None all = tt
nothing_yet (Some xs) all = refl

-- each line adds one entry at most
either : (b : Bool) (x y : Turn) (n : ℕ) → last x.work.store ≤ n → last y.work.store ≤ n → last (cond b x y).work.store ≤ n
either true x y n p q = p
either false x y n p q = q

enters : (d : Work) (b : Body) → last (entered d b).work.store ≤ last d.store + 1
unfolding entered
enters d b = omega (arith, length-append d.store.unapplied (record { term = 0; time = d.time; body = b } ∷ []))

leaves : (s : State) (us : List LogEntry) → last (commit_leaves s us) ≤ s.applied + length us + 1
unfolding commit_leaves
leaves s [] = omega arith
leaves s (u ∷ us) = omega (arith, applied-apply s u)

commits : (d : Work) → last (committed d).work.store ≤ last d.store + 1
unfolding committed
commits d = leaves d.store.state d.store.unapplied

cuts : (d : Work) (k : ℕ) → last (cut d k).work.store ≤ last d.store + 1
unfolding cut
cuts d k =
    let kept : Turn = record { text = cut_text k; work = record d { store = truncated d.store k } } in
    let shorter : length (take (k - d.store.state.applied) d.store.unapplied) ≤ length d.store.unapplied = grind (arith, common_steps) in
    either _ kept (looks d (codes "cut refused")) (last d.store + 1) (omega (arith, shorter)) (omega arith)

pub last_turn : (d : Work) (n : ℕ) (l : StoreLine) → last (turn d n l).work.store ≤ last d.store + 1
unfolding turn
last_turn d n (Time t) = omega arith
last_turn d n (Open timeout passwd) = enters d _
last_turn d n (Attach session passwd) = enters d _
last_turn d n (Expire session) = enters d _
last_turn d n Noop = enters d _
last_turn d n (Write session c) = enters d _
last_turn d n (Raw session epoch seq c) = enters d _
last_turn d n Commit = commits d
last_turn d n (Truncate k) = cuts d k
last_turn d n (Peek path) = omega arith
last_turn d n (See path) = omega arith
last_turn d n (Kids path) = omega arith
last_turn d n (Ls path) = omega arith
last_turn d n (Acl path) = omega arith
last_turn d n (Who session) = omega arith

pub blank_last : last blank.store ≡ 0
unfolding state.empty
blank_last = refl

pub part_of_nothing : (left old : Option (List ℕ)) → IfSome left (λ text. WrotePart old old (transcript text))
part_of_nothing None old = tt
part_of_nothing (Some text) old = (transcript text, nothing_yet old (transcript text))

-- one turn of the run: its text, and what its line is
module _ (old now next : Option (List ℕ)) (d e : Work) (n : ℕ) (rest after line all : List ℕ) (cut : lines_of rest ≡ line ∷ lines_of after) (wrote : Wrote old now (printed d n (lines_of rest)) all) where
  -- the output after a line
  pub go_on : TakenAs d e n line now next taken.Printed → Wrote old next (printed e (n + 1) (lines_of after)) all
  go_on told =
      let l = told.0 in
      let rest_is : printed d n (lines_of rest) ≡ printed_line d n l ++ printed (turn d n l).work (n + 1) (lines_of after) = ap (printed d n) cut ∙ printed_next d n line (lines_of after) l told.1 in
      subst (λ (x : Work). Wrote old next (printed x (n + 1) (lines_of after)) all) (sym told.2)
      (wrote_piece old now next (printed_line d n l) (printed (turn d n l).work (n + 1) (lines_of after)) all (subst (λ (x : List ℕ). Wrote old now x all) rest_is wrote) told.3)

  -- the output where a write failed
  pub part_on : TakenAs d e n line now next taken.WriteFault → WrotePart old next all
  part_on told =
      let l = told.0 in
      let rest_is : printed d n (lines_of rest) ≡ printed_line d n l ++ printed (turn d n l).work (n + 1) (lines_of after) = ap (printed d n) cut ∙ printed_next d n line (lines_of after) l told.1 in
      wrote_some old now next (printed_line d n l) (printed (turn d n l).work (n + 1) (lines_of after)) all (subst (λ (x : List ℕ). Wrote old now x all) rest_is wrote) told.2

  -- the output where the line is none
  pub stops : TakenAs d e n line now next taken.Bad → Wrote old next [] all
  stops told =
      let rest_is : printed d n (lines_of rest) ≡ [] = ap (printed d n) cut ∙ printed_bad d n line (lines_of after) told.0 in
      wrote_kept old now next [] all (subst (λ (x : List ℕ). Wrote old now x all) rest_is wrote) told.1

  pub kept_part : TakenAs d e n line now next taken.NoMemory → WrotePart old next all
  kept_part told = (printed d n (lines_of rest), wrote_kept old now next (printed d n (lines_of rest)) all wrote told)

module _ (now next : Option (List ℕ)) (d e : Work) (n : ℕ) (rest after line : List ℕ) (bad : Option ℕ) (cut : lines_of rest ≡ line ∷ lines_of after) (so_far : first_bad n (lines_of rest) ≡ bad) where
  pub bad_on : TakenAs d e n line now next taken.Printed → first_bad (n + 1) (lines_of after) ≡ bad
  bad_on told = sym (ap (first_bad n) cut ∙ bad_next n line (lines_of after) told.0 told.1) ∙ so_far

  pub bad_found : TakenAs d e n line now next taken.Bad → bad ≡ Some n
  bad_found told = sym so_far ∙ ap (first_bad n) cut ∙ bad_here n line (lines_of after) told.0

pub count_on : (now next : Option (List ℕ)) (d e : Work) (n : ℕ) (line : List ℕ) → TakenAs d e n line now next taken.Printed → last d.store < n → last e.store < n + 1
count_on now next d e n line told lt = omega (arith, ap (λ (x : Work). last x.store) told.2, last_turn d n told.0, lt)

pub begins : (d : Work) (old : Option (List ℕ)) (text : List ℕ) → d ≡ blank → Wrote old old (printed d 1 (lines_of text)) (transcript text)
begins d old text same = subst (λ (x : Work). Wrote old old (printed x 1 (lines_of text)) (transcript text)) (sym same) (nothing_yet old (transcript text))

pub ends : (old now : Option (List ℕ)) (d : Work) (n : ℕ) (rest all : List ℕ) → lines_of rest ≡ [] → Wrote old now (printed d n (lines_of rest)) all → Wrote old now [] all
ends old now d n rest all e w = subst (λ (x : List ℕ). Wrote old now x all) (ap (printed d n) e ∙ printed_end d n) w

pub none_bad : (n : ℕ) (rest : List ℕ) (bad : Option ℕ) → lines_of rest ≡ [] → first_bad n (lines_of rest) ≡ bad → bad ≡ None
none_bad n rest bad e b = sym b ∙ ap (first_bad n) e ∙ bad_end n
