-- Events and their words.
use Rattle.std.proofs.Common.{◌≡◌, ◌<◌, ◌≤◌, ◌^◌, ℕ, true, cond, ◌&&◌, inl, inr, List, [], ◌∷◌, Some, None, arith, refl, sym, ap, subst, ◌∙◌}
use Rattle.std.specs.Prelude.{nat_le}
use Rattle.std.specs.List.{list_all}
use Rattle.std.specs.Fmt.{decimal}
use Rattle.std.proofs.lemmas.Bool.Decides.{nat_tests}
use Rattle.hex.specs.Hex.{encode_lower}
use Rattle.kp_model.specs.Grammar.{is_number}
use Rattle.kp_model.specs.Limits.{last_number}
use Rattle.kp_text.specs.Words.{◌>>=◌, number_of, passwd_of, data_of}
use Rattle.kp_text.specs.Lines.{one_number, at_least}
use Rattle.kp_text.specs.Spelling.{is_part, are_bytes, is_passwd, spelled_data}
use Rattle.kp_text.proofs.Numerals.{left, right}
use Rattle.kp_text.proofs.Spelled.{both, chosen, number_is_spelled, spelled_is_read}
use Rattle.kp_text.proofs.Visible.{visible_part, decimal_part}
use Rattle.kp_text.proofs.Hexadecimal.{passwd_is_spelled, passwd_is_read, data_is_spelled, data_is_read, data_word}
use Rattle.kp_text.proofs.Choices.{bound, got, chosen_word, only_word}
use Rattle.kp_text.proofs.OperationTexts.{alone, before}
use Rattle.kp_text.proofs.LineTexts.{number_read, number_back, number_part, passwd_part}
use Rattle.kp_script.specs.Events.{node_of, one_node, accept_line, in_line, hangup_line, drain_line, deliver_line, plain_event, plain_line, event_of}
use Rattle.kp_script.specs.Spelling.{is_node, is_event, event_words}
use Rattle.kp_script.specs.declared.event.EventLine.{EventLine}
use Rattle.kp_script.specs.declared.event.EventLine.TheVariants.{Accept, In, Hangup, Drain, Timeout, Deliver, Beat, Commit, Expire, Snap}
use lib.Chars.{codes}

-- ---- nodes

pub node_read : (nodes : ℕ) (a : List ℕ) (n : ℕ) → nodes < 2 ^ 64 → node_of nodes a ≡ Some n → (a ≡ decimal n) × (is_node nodes n ≡ true)
node_read nodes a n fits e =
    let b = bound (number_of nodes a) _ n e in
    let h = number_is_spelled nodes b.0 a fits b.1 in
    let c = chosen (nat_le 1 b.0) b.0 n b.2 in
    (h.0 ∙ ap decimal c.1, subst (λ k. is_node nodes k ≡ true) c.1 (both (nat_le 1 b.0) (nat_le b.0 nodes) c.0 (let le = h.1 in grind (arith, nat_tests, le))))

pub node_small : (nodes n : ℕ) → is_node nodes n ≡ true → n ≤ nodes
node_small nodes n h = let high = right (nat_le 1 n) (nat_le n nodes) h in grind (arith, nat_tests, high)

pub node_back : (nodes n : ℕ) → nodes < 2 ^ 64 → is_node nodes n ≡ true → node_of nodes (decimal n) ≡ Some n
node_back nodes n fits h =
    ap (λ o. o >>= λ k. at_least 1 k) (spelled_is_read nodes n (node_small nodes n h) fits)
    ∙ ap (λ b. cond b (Some n) None) (left (nat_le 1 n) (nat_le n nodes) h)

pub node_part : (nodes n : ℕ) → nodes < 2 ^ 64 → is_node nodes n ≡ true → is_part (decimal n) ≡ true
node_part nodes n fits h = let small = node_small nodes n h in decimal_part n (omega (arith, small, fits))

pub one_node_read : (nodes : ℕ) (ws : List (List ℕ)) (n : ℕ) → nodes < 2 ^ 64 → one_node nodes ws ≡ Some n → (ws ≡ decimal n ∷ []) × (is_node nodes n ≡ true)
one_node_read nodes [] n fits e = absurd (cc)
one_node_read nodes (a ∷ []) n fits e = let h = node_read nodes a n fits e in (ap (λ x. x ∷ []) h.0, h.1)
one_node_read nodes (a ∷ b ∷ ws) n fits e = absurd (cc)

-- ---- what is read as an event is spelled so

-- the words are the event's
abbrev pub AreWordsOf : ℕ → List (List ℕ) → EventLine → Type 0
AreWordsOf nodes ws e = (ws ≡ event_words e) × (is_event nodes e ≡ true)

named_so : (nodes : ℕ) (name v : List ℕ) (ws : List (List ℕ)) (l : EventLine) → name ≡ v → AreWordsOf nodes (v ∷ ws) l → AreWordsOf nodes (name ∷ ws) l
named_so nodes name v ws l e h = subst (λ x. AreWordsOf nodes (x ∷ ws) l) (sym e) h

plain_read : (nodes : ℕ) (name : List ℕ) (n : ℕ) (l : EventLine) → is_node nodes n ≡ true → plain_event name n ≡ Some l → AreWordsOf nodes (name ∷ decimal n ∷ []) l
unfolding plain_event
plain_read nodes name n l h e =
    let ws = decimal n ∷ [] in
    elim (chosen_word name (codes "timeout") (Some (Timeout n)) _ l e) [
      | inl c ↦ named_so nodes name (codes "timeout") ws l c.0 (subst (AreWordsOf nodes (codes "timeout" ∷ ws)) (got (Timeout n) l c.1) (refl, h))
      | inr e1 ↦ elim (chosen_word name (codes "beat") (Some (Beat n)) _ l e1) [
        | inl c ↦ named_so nodes name (codes "beat") ws l c.0 (subst (AreWordsOf nodes (codes "beat" ∷ ws)) (got (Beat n) l c.1) (refl, h))
        | inr e2 ↦ elim (chosen_word name (codes "commit") (Some (Commit n)) _ l e2) [
          | inl c ↦ named_so nodes name (codes "commit") ws l c.0 (subst (AreWordsOf nodes (codes "commit" ∷ ws)) (got (Commit n) l c.1) (refl, h))
          | inr e3 ↦ elim (chosen_word name (codes "expire") (Some (Expire n)) _ l e3) [
            | inl c ↦ named_so nodes name (codes "expire") ws l c.0 (subst (AreWordsOf nodes (codes "expire" ∷ ws)) (got (Expire n) l c.1) (refl, h))
            | inr e4 ↦ let c = only_word name (codes "snap") (Some (Snap n)) l e4 in named_so nodes name (codes "snap") ws l c.0 (subst (AreWordsOf nodes (codes "snap" ∷ ws)) (got (Snap n) l c.1) (refl, h))
          ]
        ]
      ]
    ]

plain_line_read : (nodes : ℕ) (name : List ℕ) (ws : List (List ℕ)) (l : EventLine) → nodes < 2 ^ 64 → plain_line nodes name ws ≡ Some l → AreWordsOf nodes (name ∷ ws) l
unfolding plain_line
plain_line_read nodes name ws l fits e =
    let b = bound (one_node nodes ws) (λ n. plain_event name n) l e in
    let n = one_node_read nodes ws b.0 fits b.1 in
    subst (λ x. AreWordsOf nodes (name ∷ x) l) (sym n.0) (plain_read nodes name b.0 l n.1 b.2)

accept_read : (nodes : ℕ) (ws : List (List ℕ)) (l : EventLine) → nodes < 2 ^ 64 → accept_line nodes ws ≡ Some l → AreWordsOf nodes (codes "accept" ∷ ws) l
unfolding accept_line
accept_read nodes [] l fits e = absurd (cc)
accept_read nodes (a ∷ []) l fits e = absurd (cc)
accept_read nodes (a ∷ b ∷ []) l fits e =
    let p = bound (node_of nodes a) _ l e in
    let n = node_read nodes a p.0 fits p.1 in
    let r = bound (passwd_of b) _ l p.2 in
    let w = passwd_is_spelled b r.0 r.1 in
    subst (AreWordsOf nodes (codes "accept" ∷ a ∷ b ∷ [])) (got (Accept p.0 r.0) l r.2)
    (ap (λ x. codes "accept" ∷ x ∷ b ∷ []) n.0 ∙ ap (λ x. codes "accept" ∷ decimal p.0 ∷ x ∷ []) w.0, both (is_node nodes p.0) (is_passwd r.0) n.1 w.1)
accept_read nodes (a ∷ b ∷ c ∷ ws) l fits e = absurd (cc)

in_read : (nodes : ℕ) (ws : List (List ℕ)) (l : EventLine) → nodes < 2 ^ 64 → in_line nodes ws ≡ Some l → AreWordsOf nodes (codes "in" ∷ ws) l
unfolding in_line
in_read nodes [] l fits e = absurd (cc)
in_read nodes (a ∷ []) l fits e = absurd (cc)
in_read nodes (a ∷ b ∷ []) l fits e = absurd (cc)
in_read nodes (a ∷ b ∷ c ∷ []) l fits e =
    let p = bound (node_of nodes a) _ l e in
    let n = node_read nodes a p.0 fits p.1 in
    let q = bound (number_of last_number b) _ l p.2 in
    let k = number_read b q.0 q.1 in
    let r = bound (data_of c) _ l q.2 in
    let w = data_is_spelled c r.0 r.1 in
    subst (AreWordsOf nodes (codes "in" ∷ a ∷ b ∷ c ∷ [])) (got (In p.0 q.0 r.0) l r.2) (
      ap (λ x. codes "in" ∷ x ∷ b ∷ c ∷ []) n.0 ∙ ap (λ x. codes "in" ∷ decimal p.0 ∷ x ∷ c ∷ []) k.0 ∙ ap (λ x. codes "in" ∷ decimal p.0 ∷ decimal q.0 ∷ x ∷ []) w.0,
      both (is_node nodes p.0) (is_number q.0 && are_bytes r.0) n.1 (both (is_number q.0) (are_bytes r.0) k.1 w.1),
    )
in_read nodes (a ∷ b ∷ c ∷ d ∷ ws) l fits e = absurd (cc)

-- two words that name a node and a number, of which something is made
pub pair_read : {L : Type 0} (nodes : ℕ) (a b : List ℕ) (make : ℕ → ℕ → L) (l : L) → nodes < 2 ^ 64
    → (node_of nodes a >>= λ n. number_of last_number b >>= λ k. Some (make n k)) ≡ Some l
    → (n : ℕ) × ((k : ℕ) × ((a ∷ b ∷ [] ≡ decimal n ∷ decimal k ∷ []) × (((is_node nodes n && is_number k) ≡ true) × (Some (make n k) ≡ Some l))))
pair_read nodes a b make l fits e =
    let p = bound (node_of nodes a) _ l e in
    let n = node_read nodes a p.0 fits p.1 in
    let q = bound (number_of last_number b) _ l p.2 in
    let k = number_read b q.0 q.1 in
    (p.0, (q.0, (ap (λ x. x ∷ b ∷ []) n.0 ∙ ap (λ x. decimal p.0 ∷ x ∷ []) k.0, (both (is_node nodes p.0) (is_number q.0) n.1 k.1, q.2))))

hangup_read : (nodes : ℕ) (ws : List (List ℕ)) (l : EventLine) → nodes < 2 ^ 64 → hangup_line nodes ws ≡ Some l → AreWordsOf nodes (codes "hangup" ∷ ws) l
unfolding hangup_line
hangup_read nodes [] l fits e = absurd (cc)
hangup_read nodes (a ∷ []) l fits e = absurd (cc)
hangup_read nodes (a ∷ b ∷ []) l fits e =
    let p = pair_read nodes a b Hangup l fits e in
    subst (AreWordsOf nodes (codes "hangup" ∷ a ∷ b ∷ [])) (got (Hangup p.0 p.1.0) l p.1.1.1.1) (ap (λ ws. codes "hangup" ∷ ws) p.1.1.0, p.1.1.1.0)
hangup_read nodes (a ∷ b ∷ c ∷ ws) l fits e = absurd (cc)

drain_read : (nodes : ℕ) (ws : List (List ℕ)) (l : EventLine) → nodes < 2 ^ 64 → drain_line nodes ws ≡ Some l → AreWordsOf nodes (codes "drain" ∷ ws) l
unfolding drain_line
drain_read nodes [] l fits e = absurd (cc)
drain_read nodes (a ∷ []) l fits e = absurd (cc)
drain_read nodes (a ∷ b ∷ []) l fits e =
    let p = pair_read nodes a b Drain l fits e in
    subst (AreWordsOf nodes (codes "drain" ∷ a ∷ b ∷ [])) (got (Drain p.0 p.1.0) l p.1.1.1.1) (ap (λ ws. codes "drain" ∷ ws) p.1.1.0, p.1.1.1.0)
drain_read nodes (a ∷ b ∷ c ∷ ws) l fits e = absurd (cc)

pub one_number_read : (ws : List (List ℕ)) (n : ℕ) → one_number ws ≡ Some n → (ws ≡ decimal n ∷ []) × (is_number n ≡ true)
one_number_read [] n e = absurd (cc)
one_number_read (a ∷ []) n e = let h = number_read a n e in (ap (λ x. x ∷ []) h.0, h.1)
one_number_read (a ∷ b ∷ ws) n e = absurd (cc)

deliver_read : (nodes : ℕ) (ws : List (List ℕ)) (l : EventLine) → deliver_line ws ≡ Some l → AreWordsOf nodes (codes "deliver" ∷ ws) l
unfolding deliver_line
deliver_read nodes ws l e =
    let b = bound (one_number ws) _ l e in
    let n = one_number_read ws b.0 b.1 in
    subst (AreWordsOf nodes (codes "deliver" ∷ ws)) (got (Deliver b.0) l b.2) (ap (λ x. codes "deliver" ∷ x) n.0, n.1)

pub event_read : (nodes : ℕ) (name : List ℕ) (ws : List (List ℕ)) (l : EventLine) → nodes < 2 ^ 64 → event_of nodes name ws ≡ Some l → AreWordsOf nodes (name ∷ ws) l
unfolding event_of
event_read nodes name ws l fits e = elim (chosen_word name (codes "accept") (accept_line nodes ws) _ l e) [
  | inl c ↦ named_so nodes name (codes "accept") ws l c.0 (accept_read nodes ws l fits c.1)
  | inr e1 ↦ elim (chosen_word name (codes "in") (in_line nodes ws) _ l e1) [
    | inl c ↦ named_so nodes name (codes "in") ws l c.0 (in_read nodes ws l fits c.1)
    | inr e2 ↦ elim (chosen_word name (codes "hangup") (hangup_line nodes ws) _ l e2) [
      | inl c ↦ named_so nodes name (codes "hangup") ws l c.0 (hangup_read nodes ws l fits c.1)
      | inr e3 ↦ elim (chosen_word name (codes "drain") (drain_line nodes ws) _ l e3) [
        | inl c ↦ named_so nodes name (codes "drain") ws l c.0 (drain_read nodes ws l fits c.1)
        | inr e4 ↦ elim (chosen_word name (codes "deliver") (deliver_line ws) _ l e4) [
          | inl c ↦ named_so nodes name (codes "deliver") ws l c.0 (deliver_read nodes ws l c.1)
          | inr e5 ↦ plain_line_read nodes name ws l fits e5
        ]
      ]
    ]
  ]
]

-- ---- what is spelled so is read

-- the name of an event, and the words behind it
abbrev pub event_name : EventLine → List ℕ
event_name (Accept n draw) = codes "accept"
event_name (In n conn bytes) = codes "in"
event_name (Hangup n conn) = codes "hangup"
event_name (Drain n conn) = codes "drain"
event_name (Timeout n) = codes "timeout"
event_name (Deliver m) = codes "deliver"
event_name (Beat n) = codes "beat"
event_name (Commit n) = codes "commit"
event_name (Expire n) = codes "expire"
event_name (Snap n) = codes "snap"

abbrev pub event_rest : EventLine → List (List ℕ)
event_rest (Accept n draw) = decimal n ∷ encode_lower draw ∷ []
event_rest (In n conn bytes) = decimal n ∷ decimal conn ∷ spelled_data bytes ∷ []
event_rest (Hangup n conn) = decimal n ∷ decimal conn ∷ []
event_rest (Drain n conn) = decimal n ∷ decimal conn ∷ []
event_rest (Timeout n) = decimal n ∷ []
event_rest (Deliver m) = decimal m ∷ []
event_rest (Beat n) = decimal n ∷ []
event_rest (Commit n) = decimal n ∷ []
event_rest (Expire n) = decimal n ∷ []
event_rest (Snap n) = decimal n ∷ []

pub event_parted : (e : EventLine) → event_words e ≡ event_name e ∷ event_rest e
event_parted (Accept n draw) = refl
event_parted (In n conn bytes) = refl
event_parted (Hangup n conn) = refl
event_parted (Drain n conn) = refl
event_parted (Timeout n) = refl
event_parted (Deliver m) = refl
event_parted (Beat n) = refl
event_parted (Commit n) = refl
event_parted (Expire n) = refl
event_parted (Snap n) = refl

plain_back : (nodes n : ℕ) (name : List ℕ) (l : EventLine) → nodes < 2 ^ 64 → is_node nodes n ≡ true → plain_event name n ≡ Some l → plain_line nodes name (decimal n ∷ []) ≡ Some l
unfolding plain_line
plain_back nodes n name l fits h e = ap (λ o. o >>= λ k. plain_event name k) (node_back nodes n fits h) ∙ e

accept_back : (nodes n : ℕ) (draw : List ℕ) → nodes < 2 ^ 64 → is_node nodes n ≡ true → is_passwd draw ≡ true → accept_line nodes (decimal n ∷ encode_lower draw ∷ []) ≡ Some (Accept n draw)
unfolding accept_line
accept_back nodes n draw fits h p =
    ap (λ o. o >>= λ k. passwd_of (encode_lower draw) >>= λ w. Some (Accept k w)) (node_back nodes n fits h)
    ∙ ap (λ o. o >>= λ w. Some (Accept n w)) (passwd_is_read draw p)

in_back : (nodes n conn : ℕ) (bytes : List ℕ) → nodes < 2 ^ 64 → is_node nodes n ≡ true → is_number conn ≡ true → are_bytes bytes ≡ true
    → in_line nodes (decimal n ∷ decimal conn ∷ spelled_data bytes ∷ []) ≡ Some (In n conn bytes)
unfolding in_line
in_back nodes n conn bytes fits h c b =
    ap (λ o. o >>= λ k. number_of last_number (decimal conn) >>= λ m. data_of (spelled_data bytes) >>= λ w. Some (In k m w)) (node_back nodes n fits h)
    ∙ ap (λ o. o >>= λ m. data_of (spelled_data bytes) >>= λ w. Some (In n m w)) (number_back conn c)
    ∙ ap (λ o. o >>= λ w. Some (In n conn w)) (data_is_read bytes b)

hangup_back : (nodes n conn : ℕ) → nodes < 2 ^ 64 → is_node nodes n ≡ true → is_number conn ≡ true → hangup_line nodes (decimal n ∷ decimal conn ∷ []) ≡ Some (Hangup n conn)
unfolding hangup_line
hangup_back nodes n conn fits h c =
    ap (λ o. o >>= λ k. number_of last_number (decimal conn) >>= λ m. Some (Hangup k m)) (node_back nodes n fits h)
    ∙ ap (λ o. o >>= λ m. Some (Hangup n m)) (number_back conn c)

drain_back : (nodes n conn : ℕ) → nodes < 2 ^ 64 → is_node nodes n ≡ true → is_number conn ≡ true → drain_line nodes (decimal n ∷ decimal conn ∷ []) ≡ Some (Drain n conn)
unfolding drain_line
drain_back nodes n conn fits h c =
    ap (λ o. o >>= λ k. number_of last_number (decimal conn) >>= λ m. Some (Drain k m)) (node_back nodes n fits h)
    ∙ ap (λ o. o >>= λ m. Some (Drain n m)) (number_back conn c)

deliver_back : (m : ℕ) → is_number m ≡ true → deliver_line (decimal m ∷ []) ≡ Some (Deliver m)
unfolding deliver_line
deliver_back m h = ap (λ o. o >>= λ k. Some (Deliver k)) (number_back m h)

pub event_back : (nodes : ℕ) (e : EventLine) → nodes < 2 ^ 64 → is_event nodes e ≡ true → event_of nodes (event_name e) (event_rest e) ≡ Some e
unfolding event_of plain_event
event_back nodes (Accept n draw) fits h = accept_back nodes n draw fits (left (is_node nodes n) (is_passwd draw) h) (right (is_node nodes n) (is_passwd draw) h)
event_back nodes (In n conn bytes) fits h =
    let rest = right (is_node nodes n) (is_number conn && are_bytes bytes) h in
    in_back nodes n conn bytes fits (left (is_node nodes n) (is_number conn && are_bytes bytes) h) (left (is_number conn) (are_bytes bytes) rest) (right (is_number conn) (are_bytes bytes) rest)
event_back nodes (Hangup n conn) fits h = hangup_back nodes n conn fits (left (is_node nodes n) (is_number conn) h) (right (is_node nodes n) (is_number conn) h)
event_back nodes (Drain n conn) fits h = drain_back nodes n conn fits (left (is_node nodes n) (is_number conn) h) (right (is_node nodes n) (is_number conn) h)
event_back nodes (Timeout n) fits h = plain_back nodes n (codes "timeout") (Timeout n) fits h refl
event_back nodes (Deliver m) fits h = deliver_back m h
event_back nodes (Beat n) fits h = plain_back nodes n (codes "beat") (Beat n) fits h refl
event_back nodes (Commit n) fits h = plain_back nodes n (codes "commit") (Commit n) fits h refl
event_back nodes (Expire n) fits h = plain_back nodes n (codes "expire") (Expire n) fits h refl
event_back nodes (Snap n) fits h = plain_back nodes n (codes "snap") (Snap n) fits h refl

-- ---- each word is a part of a line

pub node_words : (nodes n : ℕ) (name : List ℕ) → nodes < 2 ^ 64 → is_node nodes n ≡ true → is_part name ≡ true → list_all is_part (name ∷ decimal n ∷ []) ≡ true
node_words nodes n name fits h part = before name (decimal n ∷ []) part (alone (decimal n) (node_part nodes n fits h))

pub three_words : (nodes n : ℕ) (name w : List ℕ) → nodes < 2 ^ 64 → is_node nodes n ≡ true → is_part name ≡ true → is_part w ≡ true → list_all is_part (name ∷ decimal n ∷ w ∷ []) ≡ true
three_words nodes n name w fits h part last = before name (decimal n ∷ w ∷ []) part (before (decimal n) (w ∷ []) (node_part nodes n fits h) (alone w last))

pub event_parts : (nodes : ℕ) (e : EventLine) → nodes < 2 ^ 64 → is_event nodes e ≡ true → list_all is_part (event_words e) ≡ true
event_parts nodes (Accept n draw) fits h =
    three_words nodes n (codes "accept") (encode_lower draw) fits (left (is_node nodes n) (is_passwd draw) h) (visible_part (codes "accept") refl) (passwd_part draw (right (is_node nodes n) (is_passwd draw) h))
event_parts nodes (In n conn bytes) fits h =
    let node = left (is_node nodes n) (is_number conn && are_bytes bytes) h in
    let rest = right (is_node nodes n) (is_number conn && are_bytes bytes) h in
    let word = alone (spelled_data bytes) (data_word bytes (right (is_number conn) (are_bytes bytes) rest)) in
    let numbers = before (decimal conn) (spelled_data bytes ∷ []) (number_part conn (left (is_number conn) (are_bytes bytes) rest)) word in
    before (codes "in") (decimal n ∷ decimal conn ∷ spelled_data bytes ∷ []) (visible_part (codes "in") refl)
    (before (decimal n) (decimal conn ∷ spelled_data bytes ∷ []) (node_part nodes n fits node) numbers)
event_parts nodes (Hangup n conn) fits h =
    three_words nodes n (codes "hangup") (decimal conn) fits (left (is_node nodes n) (is_number conn) h) (visible_part (codes "hangup") refl) (number_part conn (right (is_node nodes n) (is_number conn) h))
event_parts nodes (Drain n conn) fits h =
    three_words nodes n (codes "drain") (decimal conn) fits (left (is_node nodes n) (is_number conn) h) (visible_part (codes "drain") refl) (number_part conn (right (is_node nodes n) (is_number conn) h))
event_parts nodes (Timeout n) fits h = node_words nodes n (codes "timeout") fits h (visible_part (codes "timeout") refl)
event_parts nodes (Deliver m) fits h = before (codes "deliver") (decimal m ∷ []) (visible_part (codes "deliver") refl) (alone (decimal m) (number_part m h))
event_parts nodes (Beat n) fits h = node_words nodes n (codes "beat") fits h (visible_part (codes "beat") refl)
event_parts nodes (Commit n) fits h = node_words nodes n (codes "commit") fits h (visible_part (codes "commit") refl)
event_parts nodes (Expire n) fits h = node_words nodes n (codes "expire") fits h (visible_part (codes "expire") refl)
event_parts nodes (Snap n) fits h = node_words nodes n (codes "snap") fits h (visible_part (codes "snap") refl)
