-- A connection that was greeted, and in whose place a new one was put, stands aside.
use Rattle.std.proofs.Common.{◌≡◌, ℕ, Bool, true, false, cond, Option, Some, refl, ap, sym, subst, ◌∙◌}
use Rattle.std.specs.Prelude.{nat_eq}
use Rattle.std.specs.Cmp.{nat_eq_equiv}
use Rattle.std.specs.FinMap as map
use Rattle.kp_seats.specs.Seating.{Seating, holding, roomy, roomy_if}
use Rattle.kp_seats.specs.Walked.{IsStep, Becomes}
use Rattle.kp_conn.specs.declared.fed.Fed.{Fed}
use Rattle.kp_conn.specs.Connection.{Connection, blank}
use Rattle.kp_step.specs.declared.seat.Seat.{Seat}
use Rattle.kp_step.specs.Tables.{seated}
use Rattle.kp_node.specs.declared.welcoming.Welcome.{Welcome}
use Rattle.kp_node.specs.Greeting.{Greets, SeatGreets}
use Rattle.kp_node.specs.Guests.{swapped, conn_in, IsAside}
use Rattle.kp_node.proofs.Maps.{no, get-put, same}

module _ (w : Option Welcome) (k : ℕ) (t mid u : Seating Seat) (f : Option Fed) (conn : Connection) (h : IsStep (SeatGreets w f) k t mid)
    (put : u ≡ swapped mid k blank (map.get mid.seats k)) (taken : conn ≡ conn_in blank (map.get mid.seats k)) where
  seats_are : (z : Seat) → map.insert mid.seats k z ≡ map.insert t.seats k z
  seats_are z = same _ _ (λ q. get-put mid.seats k z q ∙ at q (nat_eq k q) refl ∙ sym (get-put t.seats k z q)) where
    at : (q : ℕ) (b : Bool) → nat_eq k q ≡ b → cond b (Some z) (map.get mid.seats q) ≡ cond b (Some z) (map.get t.seats q)
    at q true e = refl
    at q false e = h.others q (λ p. no (nat_eq k q) e (ap (nat_eq k) p ∙ nat_eq_equiv.refl k))

  held_so : (z : Seat) → holding mid k z ≡ holding t k z
  held_so z = λ i. record { next = h.beside.0 i; seats = seats_are z i; sessions = h.beside.1 i; has_room = h.beside.2 i }

  module _ (s : Seat) (there : map.get t.seats k ≡ Some s) where
    became : Becomes (SeatGreets w f k) (Some s) (map.get mid.seats k)
    became = subst (λ o. Becomes (SeatGreets w f k) o (map.get mid.seats k)) there h.here

    greets_so : Greets s.connection.phase w f s.connection conn
    greets_so = let b = became in subst (Greets s.connection.phase w f s.connection) (sym (taken ∙ ap (conn_in blank) b.1 ∙ ap (λ (z : Seat). z.connection) b.2.1.0)) b.2.1.1

    put_so : u ≡ holding t k (seated s blank)
    put_so = let b = became in put ∙ ap (swapped mid k blank) b.1 ∙ ap (λ (z : Seat). holding mid k (seated z blank)) b.2.1.0 ∙ held_so (seated s blank)

  pub aside_so : IsAside w k t (record { number = k; conn = conn; fed = f }) u
  aside_so = record { number = refl; greets = greets_so; seats = put_so }

-- room that was made is given back
pub room_back : (t made failed u : Seating Seat) (had : Bool) → had ≡ t.has_room → made ≡ roomy t → failed ≡ made → u ≡ roomy_if failed had → u ≡ t
room_back t made failed u had had_so is still back = back ∙ (λ i. roomy_if ((still ∙ is) i) (had_so i))
