-- Bytes come of a connection by where it stands.
use Rattle.std.proofs.Common.{◌≡◌, ℕ, true, false, Option, Some, None, is_some, refl, ap, sym, subst, ◌∙◌}
use Rattle.std.specs.Option.{option_map}
use Rattle.std.specs.FinMap as map
use Rattle.kp_conn.specs.declared.phase.Phase.{Phase}
use Rattle.kp_conn.specs.declared.phase.Phase.TheVariants as phase
use Rattle.kp_step.specs.declared.seat.Seat.{Seat}
use Rattle.kp_step.specs.Choices.{Choices}
use Rattle.kp_node.specs.Clients.{takes_none}
use Rattle.kp_node.specs.Early.{IsFirstAt}
use Rattle.kp_node.specs.FirstBytes.{IsFirst}
use Rattle.kp_node.specs.Parts.{Parts}
use Rattle.kp_node.specs.TakingBytes.{with_luck}
use Rattle.kp_node.proofs.Maps.{no}

abbrev phase_in : Option Seat → Option Phase
phase_in o = option_map (λ (s : Seat). s.connection.phase) o

pub none_there : (o : Option Seat) → None ≡ phase_in o → takes_none o ≡ true
none_there None e = refl
none_there (Some s) e = no true (sym (ap is_some e)) refl

same_phase : (s : Seat) (p : Phase) → phase_in (Some s) ≡ Some p → s.connection.phase ≡ p
same_phase s p e = cc

pub first_there : (o : Option Seat) (p : Phase) → phase_in o ≡ Some p → IsFirst p → IsFirstAt o
first_there None p e first = no false refl (ap is_some e)
first_there (Some s) p e first = subst IsFirst (sym (same_phase s p e)) first

pub none_at : (p x : Parts) → p ≡ x → (k : ℕ) (o : Option Phase) → o ≡ None → o ≡ phase_in (map.get p.seating.seats k) → takes_none (map.get x.seating.seats k) ≡ true
none_at p x same k o none is = subst (λ (z : Parts). takes_none (map.get z.seating.seats k) ≡ true) same (none_there (map.get p.seating.seats k) (sym none ∙ is))

-- whatever the choices are
pub any_choice : Choices
any_choice = with_luck (record { events = None; requests = None; answers = None })
