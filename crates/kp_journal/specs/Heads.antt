-- The head of a journal: a gate, a mark of 4 bytes, the generation of 8, the node of one and the length of the image of 8. The format is this
-- project's own.
use Rattle.std.specs.Prelude.{◌≡◌, ℕ, ◌^◌, ◌<◌, ◌==◌, ◌&&◌, if◌then◌else◌, Bool, true, cond, nat_eq, nat_le, List, [], ◌∷◌, ◌++◌, length, get_or, take, drop, Option, Some, None}
use Rattle.std.specs.Int.{w32, w64, from_be_bytes, to_be_bytes}
use Rattle.kp_model.specs.Grammar.{is_number}
use Rattle.kp_journal.specs.declared.head.Head.{Head}

-- `KPJ1` in ASCII, as a number
abbrev pub mark : ℕ
mark = 1263553073

-- the head's gate is open, and there is room for a gate behind the head
abbrev pub is_open : List ℕ → Bool
is_open xs = nat_le 23 (length xs) && nat_eq (get_or xs 0 0) 1

-- what the fields of the head say
abbrev pub head_in : List ℕ → Head
head_in head = record { generation = from_be_bytes w64 (take 8 (drop 5 head)); node = get_or head 13 0; image_len = from_be_bytes w64 (take 8 (drop 14 head)) }

-- the generation of a journal, as it stands
abbrev pub generation : List ℕ → ℕ
generation xs = (head_in (take 22 xs)).generation

-- the generation of a journal whose head is open
abbrev pub open_generation : List ℕ → Option ℕ
open_generation xs = cond (is_open xs) (Some (generation xs)) None

-- a generation is at least 1 and at most 2 ^ 62
abbrev pub is_generation : ℕ → Bool
is_generation n = nat_le 1 n && is_number n

-- the place of the first field of the head of a journal of this node that is not as it has to be
unfoldable pub head_fault : ℕ → List ℕ → Option ℕ
head_fault node head =
    if from_be_bytes w32 (take 4 (drop 1 head)) == mark
    then if is_generation (head_in head).generation
    then if (head_in head).node == node
    then if is_number (head_in head).image_len then None else Some 14
    else Some 13
    else Some 5
    else Some 1

-- ---- writing a head

-- its fields are in their ranges
pub record IsHead (h : Head) : Type 0 where
  pub generation : is_generation h.generation ≡ true
  pub node : h.node < 2 ^ 8
  pub image_len : is_number h.image_len ≡ true

-- the bytes of a head behind its gate, and a closed gate
abbrev pub head_bytes : Head → List ℕ
head_bytes h = to_be_bytes w32 mark ++ (to_be_bytes w64 h.generation ++ (h.node ∷ (to_be_bytes w64 h.image_len ++ 0 ∷ [])))

-- a journal with this head, behind a first byte of its own, and no batch
abbrev pub headed : Head → List ℕ → List ℕ
headed h xs = take 1 xs ++ head_bytes h
