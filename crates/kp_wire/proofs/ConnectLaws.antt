-- The forms of the connect request and the connect reply are lawful.
use Rattle.std.proofs.Common.{◌≡◌, ℕ, pos, Bool, true, false, cond, eqb, List, length, Option, Some, None, refl, sym, ap, arith}
use Rattle.kp_jute.specs.Form.{Lawful, LawfulAtEnd, ◌⊗◌, if_any}
use Rattle.kp_jute.specs.Jute.{booleans, buffers, unsigned_ints, unsigned_longs, fixed_ints, fixed_booleans}
use Rattle.kp_jute.proofs.AtEnd.{both_at_end, seen_at_end, if_any_at_end, at_end, booleans_long}
use Rattle.kp_jute.proofs.Cases.{narrowed_lawful, fixed_ints_lawful, fixed_booleans_lawful}
use Rattle.kp_jute.proofs.Combined.{◌&◌}
use Rattle.kp_jute.proofs.Numbers.{ints_lawful, longs_lawful, booleans_lawful, unsigned_ints_lawful, unsigned_longs_lawful}
use Rattle.kp_jute.proofs.Lengths.{buffers_lawful}
use Rattle.kp_jute.proofs.Packets.{packets_lawful}
use Rattle.kp_wire.specs.Connects.{session_asks, secrets, connects, connect_packets, password_in, passwords, is_there, there_if, flags, connect_answers, connect_answer_packets}
use Rattle.kp_wire.proofs.PartLaws.{some_is}

secrets_lawful : LawfulAtEnd secrets
secrets_lawful = both_at_end buffers (if_any booleans) buffers_lawful (if_any_at_end booleans booleans_long (at_end booleans booleans_lawful))

asks_lawful : Lawful session_asks
asks_lawful = ints_lawful & (longs_lawful & (ints_lawful & longs_lawful))

connects_lawful : LawfulAtEnd connects
connects_lawful = seen_at_end _ _ (session_asks ⊗ secrets) (λ _. refl) (λ _. refl) (both_at_end session_asks secrets asks_lawful secrets_lawful)

pub connect_packets_lawful : Lawful connect_packets
connect_packets_lawful = packets_lawful connects connects_lawful

test_back : (b : Bool) (x y : List ℕ) → cond b (Some x) None ≡ Some y → y ≡ x
test_back true x y e = sym (some_is x y e)
test_back false x y e = absurd cc

password_back : (o : Option (List ℕ)) (bytes : List ℕ) → password_in o ≡ Some bytes → Some bytes ≡ o
password_back None bytes e = absurd cc
password_back (Some x) bytes e = ap (λ (u : List ℕ). Some u) (test_back (eqb (length x) 16) x bytes e)

passwords_lawful : Lawful passwords
passwords_lawful = narrowed_lawful password_in (λ bytes. Some bytes) buffers password_back buffers_lawful

there : (o : Option (Unit {0})) → there_if (is_there o) ≡ o
there None = refl
there (Some u) = refl

back : (b : Bool) → is_there (there_if b) ≡ b
back false = refl
back true = refl

flags_lawful : LawfulAtEnd flags
flags_lawful = seen_at_end is_there there_if (if_any (fixed_booleans false)) there back (if_any_at_end (fixed_booleans false) (λ _. omega arith) (at_end (fixed_booleans false) (fixed_booleans_lawful false)))

answers_lawful : LawfulAtEnd connect_answers
answers_lawful = seen_at_end _ _ (fixed_ints (pos 0) ⊗ (unsigned_ints ⊗ (unsigned_longs ⊗ (passwords ⊗ flags)))) (λ _. refl) (λ _. refl)
    (both_at_end (fixed_ints (pos 0)) (unsigned_ints ⊗ (unsigned_longs ⊗ (passwords ⊗ flags))) (fixed_ints_lawful (pos 0)) (both_at_end unsigned_ints (unsigned_longs ⊗ (passwords ⊗ flags)) unsigned_ints_lawful (both_at_end unsigned_longs (passwords ⊗ flags) unsigned_longs_lawful (both_at_end passwords flags passwords_lawful flags_lawful))))

pub connect_answer_packets_lawful : Lawful connect_answer_packets
connect_answer_packets_lawful = packets_lawful connect_answers answers_lawful
