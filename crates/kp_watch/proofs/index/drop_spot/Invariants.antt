use Rattle.std.proofs.Common.{◌≡◌, ℕ, nat_eq, cond, not, ◌&&◌, None}
use Rattle.std.specs.List.{list_any}
use Rattle.kp_watch.specs.Numbered.{watch_at, AreOrdered}
use Rattle.kp_watch.specs.Owners.{is_own}
use Rattle.kp_watch.proofs.index.drop_spot.Given as goal

abbrev pub invariant-loop-conn : goal.invariant-loop-conn
invariant-loop-conn l = AreOrdered l.book.entries
    × ((n : ℕ) → cond (list_any (λ (e : ℕ × ℕ). nat_eq e.1 n) l.spot.entries) None (watch_at l.fn.book.entries n) ≡ cond (list_any (λ (e : ℕ × ℕ). nat_eq e.1 n) l.conn-iterator) None (watch_at l.book.entries n))
    × ((c n : ℕ) → (is_own l.fn.own.entries c n && not (list_any (λ (e : ℕ × ℕ). nat_eq e.0 c && nat_eq e.1 n) l.spot.entries)) ≡ (is_own l.own.entries c n && not (list_any (λ (e : ℕ × ℕ). nat_eq e.0 c && nat_eq e.1 n) l.conn-iterator)))
