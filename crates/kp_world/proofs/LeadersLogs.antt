-- A leader that holds the whole log of its term holds it as long as it stays in its term.
use Rattle.std.proofs.Common.{◌≡◌, ℕ, ◌<◌, ◌≤◌, true, refl, sym, ap, arith, ◌∙◌, List, [], ◌∷◌, ◌++◌, subst}
use Rattle.std.specs.Prelude.{nat_eq}
use Rattle.std.proofs.lemmas.Bool.Decides.{nat_tests}
use mathlib.Core.List.{IsPrefix}
use Rattle.kp_model.specs.LogEntry.{LogEntry}
use Rattle.kp_world.specs.Book.{Book, set_at}
use Rattle.kp_world.specs.Moves.{Move, RaiseTerm, Stand, Vote, Elect, Write, Follow, Acknowledge, MayElect, MayWrite, MayFollow, IsAllowed, AreAllowed, after_move, after_moves}
use Rattle.kp_world.proofs.Majorities.{InBoth, majorities_meet}
use Rattle.kp_world.proofs.Prefixes.{prefix_self, prefix_length, prefix_whole}
use Rattle.kp_world.proofs.Cases.{set_at_cases}
use Rattle.kp_world.proofs.Growth.{Grows}
use Rattle.kp_world.proofs.Invariant.{Invariant}
use Rattle.kp_world.proofs.Elect.{no_leader_yet}
use Rattle.kp_world.proofs.Histories.{move_grows, move_keeps, moves_grow}

-- a leader has come to its term: those that voted for it say so
pub leader_in_term : (n : ℕ) (b : Book) (t : ℕ) → Invariant n b → 0 < b.leader t → t ≤ b.term (b.leader t)
leader_in_term n b t i some =
    let f = λ (k : ℕ). nat_eq (b.voted_for k t) (b.leader t) in
    let m : InBoth n f f = majorities_meet n f f (i.leader_votes t some) (i.leader_votes t some) in
    let chose : nat_eq (b.voted_for m.0 t) (b.leader t) ≡ true = m.3 in
    let is : b.voted_for m.0 t ≡ b.leader t = grind (arith, nat_tests) in
    subst (λ c. t ≤ b.term c) is (i.candidate_term m.0 t (omega arith))

-- the leader of t, which is in t, has the log of the leader of t
record HoldsItsLog (b : Book) (t c : ℕ) : Type 0 where
  leads : 0 < b.leader t
  is : b.leader t ≡ c
  now : b.term c ≡ t
  same : b.log c ≡ b.leader_log t

elect_leaves : (n : ℕ) (b : Book) (t c u e : ℕ) → Invariant n b → MayElect n b u e → HoldsItsLog b t c → b.log c ≡ (after_move b (Elect u e)).leader_log t
elect_leaves n b t c u e i may h = set_at_cases (λ xs. b.log c ≡ xs) b.leader_log u (b.candidate_log u e) t
    (λ at. absurd (omega (arith, h.leads, subst (λ x. b.leader x ≡ 0) (sym at) (no_leader_yet n b u e i may))))
    (λ at. h.same)

write_leaves : (b : Book) (t c u : ℕ) (e : LogEntry) → MayWrite b u e → HoldsItsLog b t c → (after_move b (Write u e)).log c ≡ (after_move b (Write u e)).leader_log t
write_leaves b t c u e may h =
    let ys : List LogEntry = b.leader_log u ++ e ∷ [] in
    set_at_cases (λ xs. set_at b.log (b.leader u) ys c ≡ xs) b.leader_log u ys t
    (λ at. set_at_cases (λ xs. xs ≡ ys) b.log (b.leader u) ys c (λ is. refl) (λ no. absurd (no (sym h.is ∙ ap b.leader at))))
    (λ other. set_at_cases (λ xs. xs ≡ b.leader_log t) b.log (b.leader u) ys c
    (λ is. absurd (other (sym h.now ∙ (ap b.term is ∙ may.now))))
    (λ no. h.same))

follow_leaves : (b : Book) (t c k : ℕ) (xs : List LogEntry) → MayFollow b k xs → HoldsItsLog b t c → (after_move b (Follow k xs)).log c ≡ b.leader_log t
follow_leaves b t c k xs may h = set_at_cases (λ ys. ys ≡ b.leader_log t) b.log k xs c (λ is. whole (ap b.term (sym is) ∙ h.now) (ap b.log (sym is) ∙ h.same)) (λ no. h.same)
  where
    whole : b.term k ≡ t → b.log k ≡ b.leader_log t → xs ≡ b.leader_log t
    whole at same =
        let within : IsPrefix xs (b.leader_log t) = subst (λ u. IsPrefix xs (b.leader_log u)) at may.within in
        let keeps : IsPrefix (b.leader_log t) xs = may.keeps (b.leader_log t) (rw same (prefix_self (b.leader_log t))) (rw at (prefix_self (b.leader_log t))) in
        prefix_whole xs (b.leader_log t) within (prefix_length (b.leader_log t) xs keeps)

move_leaves : (n : ℕ) (b : Book) (m : Move) (t c : ℕ) → Invariant n b → IsAllowed n b m → HoldsItsLog b t c → (after_move b m).log c ≡ (after_move b m).leader_log t
move_leaves n b (RaiseTerm k u) t c i may h = h.same
move_leaves n b (Stand d u) t c i may h = h.same
move_leaves n b (Vote k d) t c i may h = h.same
move_leaves n b (Elect u d) t c i may h = elect_leaves n b t c u d i may h
move_leaves n b (Write u e) t c i may h = write_leaves b t c u e may h
move_leaves n b (Follow k xs) t c i may h = follow_leaves b t c k xs may h
move_leaves n b (Acknowledge k m) t c i may h = h.same

pub moves_leave : (n : ℕ) (b : Book) (ms : List Move) (t c : ℕ) → Invariant n b → AreAllowed n b ms → 0 < b.leader t → b.leader t ≡ c → b.log c ≡ b.leader_log t → (after_moves b ms).term c ≡ t → (after_moves b ms).log c ≡ (after_moves b ms).leader_log t
moves_leave n b [] t c i may leads is same now = same
moves_leave n b (m ∷ ms) t c i may leads is same now =
    let d : Book = after_move b m in
    let g : Grows b d = move_grows n b m i may.0 in
    let j : Invariant n d = move_keeps n b m i may.0 in
    let come : t ≤ b.term c = subst (λ x. t ≤ b.term x) is (leader_in_term n b t i leads) in
    let still : b.term c ≤ d.term c = g.term c in
    let end : d.term c ≤ (after_moves d ms).term c = (moves_grow n d ms j may.1).term c in
    let is_d : d.leader t ≡ b.leader t = g.leader t leads in
    moves_leave n d ms t c j may.1 (omega arith) (is_d ∙ is) (move_leaves n b m t c i may.0 (record { leads = leads; is = is; now = omega arith; same = same })) now
