-- Lines and their words.
use Rattle.std.proofs.Common.{◌≡◌, ◌≤◌, ℕ, true, cond, ◌&&◌, ◌==◌, inl, inr, List, [], ◌∷◌, length, Some, None, arith, refl, sym, ap, subst, ◌∙◌}
use Rattle.std.specs.Prelude.{nat_le, IsTrue, ◌↔◌}
use Rattle.std.specs.List.{list_all, join_with_byte}
use Rattle.std.specs.Str.{is_utf8}
use Rattle.std.specs.Fmt.{decimal}
use Rattle.std.proofs.lemmas.Bool.Decides.{nat_tests}
use Rattle.hex.specs.Hex.{encode_lower}
use Rattle.kp_model.specs.Grammar.{is_number, is_timeout}
use Rattle.kp_model.specs.Limits.{last_number}
use Rattle.kp_text.specs.Words.{◌>>=◌, words_of, number_of, passwd_of}
use Rattle.kp_text.specs.Commands.{command_of}
use Rattle.kp_text.specs.Lines.{one_number, one_path, is_numbered, numbered, numbered_line, is_look, look_at, look_line, bare, at_least, open_line, attach_line, raw_line, write_line, entry_line, of_name, of_words, line_of}
use Rattle.kp_text.specs.Spelling.{is_part, is_word, are_bytes, is_passwd, is_command, is_line, command_name, command_words, line_words, spelled}
use Rattle.kp_text.specs.declared.command.Operation.TheVariants as op
use Rattle.kp_text.specs.declared.command.Command.{Command}
use Rattle.kp_text.specs.declared.command.Command.TheVariants as command
use Rattle.kp_text.specs.declared.line.StoreLine.{StoreLine}
use Rattle.kp_text.specs.declared.line.StoreLine.TheVariants.{Time, Open, Attach, Expire, Noop, Write, Raw, Commit, Truncate, Peek, See, Kids, Ls, Acl, Who}
use Rattle.kp_text.proofs.Numerals.{left, right}
use Rattle.kp_text.proofs.Spelled.{both, chosen, number_is_spelled, spelled_is_read}
use Rattle.kp_text.proofs.Visible.{visible_part, decimal_part}
use Rattle.kp_text.proofs.Hexadecimal.{first_way, hex_word, passwd_is_spelled, passwd_is_read}
use Rattle.kp_text.proofs.Parted.{words_are_all, words_are_parts, line_of_words}
use Rattle.kp_text.proofs.Choices.{bound, got, either_way, chosen_word, only_word}
use Rattle.kp_text.proofs.OperationTexts.{path_is_spelled, path_is_read, path_part, alone, before, head_part, tail_parts}
use Rattle.kp_text.proofs.CommandTexts.{command_read, command_back, command_parts, name_part}
use lib.Chars.{codes}

-- ---- numbers

number_fits : (n : ℕ) → n ≤ last_number → is_number n ≡ true
number_fits n h = grind (arith, nat_tests, h)

pub number_small : (n : ℕ) → is_number n ≡ true → n ≤ last_number
number_small n h = grind (arith, nat_tests, h)

pub number_read : (a : List ℕ) (n : ℕ) → number_of last_number a ≡ Some n → (a ≡ decimal n) × (is_number n ≡ true)
number_read a n e = let h = number_is_spelled last_number n a (omega arith) e in (h.0, number_fits n h.1)

pub number_back : (n : ℕ) → is_number n ≡ true → number_of last_number (decimal n) ≡ Some n
number_back n h = spelled_is_read last_number n (number_small n h) (omega arith)

pub number_part : (n : ℕ) → is_number n ≡ true → is_part (decimal n) ≡ true
number_part n h = decimal_part n (let small = number_small n h in omega (arith, small))

timeout_fits : (n : ℕ) → nat_le 10000 n ≡ true → n ≤ 100000 → is_timeout n ≡ true
timeout_fits n low high = both (nat_le 10000 n) (nat_le n 100000) low (grind (arith, nat_tests, high))

pub timeout_small : (n : ℕ) → is_timeout n ≡ true → n ≤ 100000
timeout_small n h = let high = right (nat_le 10000 n) (nat_le n 100000) h in grind (arith, nat_tests, high)

timeout_back : (n : ℕ) → is_timeout n ≡ true → number_of 100000 (decimal n) ≡ Some n
timeout_back n h = spelled_is_read 100000 n (timeout_small n h) (omega arith)

timeout_part : (n : ℕ) → is_timeout n ≡ true → is_part (decimal n) ≡ true
timeout_part n h = let small = timeout_small n h in decimal_part n (omega (arith, small))

pub passwd_part : (p : List ℕ) → is_passwd p ≡ true → is_part (encode_lower p) ≡ true
passwd_part p h = hex_word p (left (are_bytes p) (length p == 16) h)

-- ---- what is read as a line is spelled so

-- the words are the line's
abbrev IsWordsOf : List (List ℕ) → StoreLine → Type 0
IsWordsOf ws l = (ws ≡ line_words l) × (is_line l ≡ true)

-- a line whose name is the one given
named_so : (name v : List ℕ) (ws : List (List ℕ)) (l : StoreLine) → name ≡ v → IsWordsOf (v ∷ ws) l → IsWordsOf (name ∷ ws) l
named_so name v ws l e h = subst (λ x. IsWordsOf (x ∷ ws) l) (sym e) h

numbered_read : (name : List ℕ) (n : ℕ) (l : StoreLine) → is_number n ≡ true → numbered name n ≡ Some l → IsWordsOf (name ∷ decimal n ∷ []) l
unfolding numbered
numbered_read name n l h e =
    let ws = decimal n ∷ [] in
    elim (chosen_word name (codes "time") (Some (Time n)) _ l e) [
      | inl c ↦ named_so name (codes "time") ws l c.0 (subst (IsWordsOf (codes "time" ∷ ws)) (got (Time n) l c.1) (refl, h))
      | inr e1 ↦ elim (chosen_word name (codes "truncate") (Some (Truncate n)) _ l e1) [
        | inl c ↦ named_so name (codes "truncate") ws l c.0 (subst (IsWordsOf (codes "truncate" ∷ ws)) (got (Truncate n) l c.1) (refl, h))
        | inr e2 ↦ elim (chosen_word name (codes "expire") (Some (Expire n)) _ l e2) [
          | inl c ↦ named_so name (codes "expire") ws l c.0 (subst (IsWordsOf (codes "expire" ∷ ws)) (got (Expire n) l c.1) (refl, h))
          | inr e3 ↦ let c = only_word name (codes "who") (Some (Who n)) l e3 in named_so name (codes "who") ws l c.0 (subst (IsWordsOf (codes "who" ∷ ws)) (got (Who n) l c.1) (refl, h))
        ]
      ]
    ]

one_number_read : (ws : List (List ℕ)) (n : ℕ) → one_number ws ≡ Some n → (ws ≡ decimal n ∷ []) × (is_number n ≡ true)
one_number_read [] n e = absurd (cc)
one_number_read (a ∷ []) n e = let h = number_read a n e in (ap (λ x. x ∷ []) h.0, h.1)
one_number_read (a ∷ b ∷ ws) n e = absurd (cc)

numbered_line_read : (name : List ℕ) (ws : List (List ℕ)) (l : StoreLine) → numbered_line name ws ≡ Some l → IsWordsOf (name ∷ ws) l
unfolding numbered_line
numbered_line_read name ws l e =
    let b = bound (one_number ws) (λ n. numbered name n) l e in
    let n = one_number_read ws b.0 b.1 in
    subst (λ x. IsWordsOf (name ∷ x) l) (sym n.0) (numbered_read name b.0 l n.1 b.2)

look_read : (name p : List ℕ) (l : StoreLine) → is_word p ≡ true → look_at name p ≡ Some l → IsWordsOf (name ∷ p ∷ []) l
unfolding look_at
look_read name p l h e =
    let ws = p ∷ [] in
    elim (chosen_word name (codes "peek") (Some (Peek p)) _ l e) [
      | inl c ↦ named_so name (codes "peek") ws l c.0 (subst (IsWordsOf (codes "peek" ∷ ws)) (got (Peek p) l c.1) (refl, h))
      | inr e1 ↦ elim (chosen_word name (codes "see") (Some (See p)) _ l e1) [
        | inl c ↦ named_so name (codes "see") ws l c.0 (subst (IsWordsOf (codes "see" ∷ ws)) (got (See p) l c.1) (refl, h))
        | inr e2 ↦ elim (chosen_word name (codes "kids") (Some (Kids p)) _ l e2) [
          | inl c ↦ named_so name (codes "kids") ws l c.0 (subst (IsWordsOf (codes "kids" ∷ ws)) (got (Kids p) l c.1) (refl, h))
          | inr e3 ↦ elim (chosen_word name (codes "ls") (Some (Ls p)) _ l e3) [
            | inl c ↦ named_so name (codes "ls") ws l c.0 (subst (IsWordsOf (codes "ls" ∷ ws)) (got (Ls p) l c.1) (refl, h))
            | inr e4 ↦ let c = only_word name (codes "acl") (Some (Acl p)) l e4 in named_so name (codes "acl") ws l c.0 (subst (IsWordsOf (codes "acl" ∷ ws)) (got (Acl p) l c.1) (refl, h))
          ]
        ]
      ]
    ]

one_path_read : (ws : List (List ℕ)) (p : List ℕ) → list_all is_part ws ≡ true → one_path ws ≡ Some p → (ws ≡ p ∷ []) × (is_word p ≡ true)
one_path_read [] p parts e = absurd (cc)
one_path_read (a ∷ []) p parts e = let h = path_is_spelled a p (head_part a [] parts) e in (ap (λ x. x ∷ []) h.0, h.1)
one_path_read (a ∷ b ∷ ws) p parts e = absurd (cc)

look_line_read : (name : List ℕ) (ws : List (List ℕ)) (l : StoreLine) → list_all is_part ws ≡ true → look_line name ws ≡ Some l → IsWordsOf (name ∷ ws) l
unfolding look_line
look_line_read name ws l parts e =
    let b = bound (one_path ws) (λ p. look_at name p) l e in
    let p = one_path_read ws b.0 parts b.1 in
    subst (λ x. IsWordsOf (name ∷ x) l) (sym p.0) (look_read name b.0 l p.1 b.2)

bare_read : (name : List ℕ) (l : StoreLine) → bare name ≡ Some l → IsWordsOf (name ∷ []) l
unfolding bare
bare_read name l e = elim (chosen_word name (codes "commit") (Some Commit) _ l e) [
  | inl c ↦ named_so name (codes "commit") [] l c.0 (subst (IsWordsOf (codes "commit" ∷ [])) (got Commit l c.1) (refl, refl))
  | inr e1 ↦ let c = only_word name (codes "noop") (Some Noop) l e1 in named_so name (codes "noop") [] l c.0 (subst (IsWordsOf (codes "noop" ∷ [])) (got Noop l c.1) (refl, refl))
]

open_read : (ws : List (List ℕ)) (l : StoreLine) → open_line ws ≡ Some l → IsWordsOf (codes "open" ∷ ws) l
unfolding open_line
open_read [] l e = absurd (cc)
open_read (a ∷ []) l e = absurd (cc)
open_read (a ∷ b ∷ []) l e =
    let p = bound (number_of 100000 a) _ l e in
    let n = number_is_spelled 100000 p.0 a (omega arith) p.1 in
    let q = bound (at_least 10000 p.0) _ l p.2 in
    let t = chosen (nat_le 10000 p.0) p.0 q.0 q.1 in
    let r = bound (passwd_of b) _ l q.2 in
    let w = passwd_is_spelled b r.0 r.1 in
    let fits : is_timeout q.0 ≡ true = subst (λ k. is_timeout k ≡ true) t.1 (timeout_fits p.0 t.0 n.1) in
    subst (IsWordsOf (codes "open" ∷ a ∷ b ∷ [])) (got (Open q.0 r.0) l r.2)
    (ap (λ x. codes "open" ∷ x ∷ b ∷ []) (n.0 ∙ ap decimal t.1) ∙ ap (λ x. codes "open" ∷ decimal q.0 ∷ x ∷ []) w.0, both (is_timeout q.0) (is_passwd r.0) fits w.1)
open_read (a ∷ b ∷ c ∷ ws) l e = absurd (cc)

attach_read : (ws : List (List ℕ)) (l : StoreLine) → attach_line ws ≡ Some l → IsWordsOf (codes "attach" ∷ ws) l
unfolding attach_line
attach_read [] l e = absurd (cc)
attach_read (a ∷ []) l e = absurd (cc)
attach_read (a ∷ b ∷ []) l e =
    let p = bound (number_of last_number a) _ l e in
    let n = number_read a p.0 p.1 in
    let r = bound (passwd_of b) _ l p.2 in
    let w = passwd_is_spelled b r.0 r.1 in
    subst (IsWordsOf (codes "attach" ∷ a ∷ b ∷ [])) (got (Attach p.0 r.0) l r.2)
    (ap (λ x. codes "attach" ∷ x ∷ b ∷ []) n.0 ∙ ap (λ x. codes "attach" ∷ decimal p.0 ∷ x ∷ []) w.0, both (is_number p.0) (is_passwd r.0) n.1 w.1)
attach_read (a ∷ b ∷ c ∷ ws) l e = absurd (cc)

raw_read : (ws : List (List ℕ)) (l : StoreLine) → list_all is_part ws ≡ true → raw_line ws ≡ Some l → IsWordsOf (codes "raw" ∷ ws) l
unfolding raw_line
raw_read [] l p e = absurd (cc)
raw_read (a ∷ []) l p e = absurd (cc)
raw_read (a ∷ b ∷ []) l p e = absurd (cc)
raw_read (a ∷ b ∷ c ∷ []) l p e = absurd (cc)
raw_read (a ∷ b ∷ c ∷ name ∷ ws) l p e =
    let p1 = bound (number_of last_number a) _ l e in
    let p2 = bound (number_of last_number b) _ l p1.2 in
    let p3 = bound (number_of last_number c) _ l p2.2 in
    let p4 = bound (command_of name ws) _ l p3.2 in
    let session = number_read a p1.0 p1.1 in
    let epoch = number_read b p2.0 p2.1 in
    let seq = number_read c p3.0 p3.1 in
    let rest = tail_parts name ws (tail_parts c (name ∷ ws) (tail_parts b (c ∷ name ∷ ws) (tail_parts a (b ∷ c ∷ name ∷ ws) p))) in
    let cmd = command_read name ws p4.0 rest p4.1 in
    let raw = codes "raw" in
    subst (IsWordsOf (raw ∷ a ∷ b ∷ c ∷ name ∷ ws)) (got (Raw p1.0 p2.0 p3.0 p4.0) l p4.2) (
      ap (λ x. raw ∷ x ∷ b ∷ c ∷ name ∷ ws) session.0 ∙ ap (λ x. raw ∷ decimal p1.0 ∷ x ∷ c ∷ name ∷ ws) epoch.0
          ∙ ap (λ x. raw ∷ decimal p1.0 ∷ decimal p2.0 ∷ x ∷ name ∷ ws) seq.0
          ∙ ap (λ x. raw ∷ decimal p1.0 ∷ decimal p2.0 ∷ decimal p3.0 ∷ x ∷ ws) cmd.0
          ∙ ap (λ x. raw ∷ decimal p1.0 ∷ decimal p2.0 ∷ decimal p3.0 ∷ command_name p4.0 ∷ x) cmd.1,
      both (is_number p1.0) (is_number p2.0 && (is_number p3.0 && is_command p4.0)) session.1
          (both (is_number p2.0) (is_number p3.0 && is_command p4.0) epoch.1 (both (is_number p3.0) (is_command p4.0) seq.1 cmd.2)),
    )

write_read : (name : List ℕ) (ws : List (List ℕ)) (l : StoreLine) → list_all is_part ws ≡ true → write_line name ws ≡ Some l → IsWordsOf (name ∷ ws) l
unfolding write_line
write_read name [] l p e = absurd (cc)
write_read name (a ∷ ws) l p e =
    let p1 = bound (number_of last_number a) _ l e in
    let p2 = bound (command_of name ws) _ l p1.2 in
    let session = number_read a p1.0 p1.1 in
    let cmd = command_read name ws p2.0 (tail_parts a ws p) p2.1 in
    subst (IsWordsOf (name ∷ a ∷ ws)) (got (Write p1.0 p2.0) l p2.2) (
      ap (λ x. name ∷ x ∷ ws) session.0 ∙ ap (λ x. x ∷ decimal p1.0 ∷ ws) cmd.0 ∙ ap (λ x. command_name p2.0 ∷ decimal p1.0 ∷ x) cmd.1,
      both (is_number p1.0) (is_command p2.0) session.1 cmd.2,
    )

entry_read : (name : List ℕ) (ws : List (List ℕ)) (l : StoreLine) → list_all is_part ws ≡ true → entry_line name ws ≡ Some l → IsWordsOf (name ∷ ws) l
unfolding entry_line
entry_read name ws l p e = elim (chosen_word name (codes "open") (open_line ws) _ l e) [
  | inl c ↦ named_so name (codes "open") ws l c.0 (open_read ws l c.1)
  | inr e1 ↦ elim (chosen_word name (codes "attach") (attach_line ws) _ l e1) [
    | inl c ↦ named_so name (codes "attach") ws l c.0 (attach_read ws l c.1)
    | inr e2 ↦ elim (chosen_word name (codes "raw") (raw_line ws) _ l e2) [
      | inl c ↦ named_so name (codes "raw") ws l c.0 (raw_read ws l p c.1)
      | inr e3 ↦ write_read name ws l p e3
    ]
  ]
]

of_name_read : (name : List ℕ) (ws : List (List ℕ)) (l : StoreLine) → list_all is_part ws ≡ true → of_name name ws ≡ Some l → IsWordsOf (name ∷ ws) l
of_name_read name [] l p e = bare_read name l e
of_name_read name (w ∷ ws) l p e = entry_read name (w ∷ ws) l p e

pub words_read : (ws : List (List ℕ)) (l : StoreLine) → list_all is_part ws ≡ true → of_words ws ≡ Some l → IsWordsOf ws l
unfolding of_words
words_read [] l p e = absurd (cc)
words_read (name ∷ ws) l p e = elim (either_way (is_numbered name) (numbered_line name ws) _ l e) [
  | inl h ↦ numbered_line_read name ws l h
  | inr e1 ↦ elim (either_way (is_look name) (look_line name ws) _ l e1) [
    | inl h ↦ look_line_read name ws l (tail_parts name ws p) h
    | inr h ↦ of_name_read name ws l (tail_parts name ws p) h
  ]
]

-- ---- what is spelled so is read

open_back : (timeout : ℕ) (passwd : List ℕ) → is_timeout timeout ≡ true → is_passwd passwd ≡ true → open_line (decimal timeout ∷ encode_lower passwd ∷ []) ≡ Some (Open timeout passwd)
unfolding open_line
open_back timeout passwd t p =
    ap (λ o. o >>= λ n. at_least 10000 n >>= λ m. passwd_of (encode_lower passwd) >>= λ w. Some (Open m w)) (timeout_back timeout t)
    ∙ ap (λ b. cond b (Some timeout) None >>= λ m. passwd_of (encode_lower passwd) >>= λ w. Some (Open m w)) (left (nat_le 10000 timeout) (nat_le timeout 100000) t)
    ∙ ap (λ o. o >>= λ w. Some (Open timeout w)) (passwd_is_read passwd p)

attach_back : (session : ℕ) (passwd : List ℕ) → is_number session ≡ true → is_passwd passwd ≡ true → attach_line (decimal session ∷ encode_lower passwd ∷ []) ≡ Some (Attach session passwd)
unfolding attach_line
attach_back session passwd s p =
    ap (λ o. o >>= λ n. passwd_of (encode_lower passwd) >>= λ w. Some (Attach n w)) (number_back session s)
    ∙ ap (λ o. o >>= λ w. Some (Attach session w)) (passwd_is_read passwd p)

raw_back : (s e q : ℕ) (c : Command) → is_number s ≡ true → is_number e ≡ true → is_number q ≡ true → is_command c ≡ true
    → raw_line (decimal s ∷ decimal e ∷ decimal q ∷ command_name c ∷ command_words c) ≡ Some (Raw s e q c)
unfolding raw_line
raw_back s e q c hs he hq hc =
    ap (λ o. o >>= λ n. number_of last_number (decimal e) >>= λ m. number_of last_number (decimal q) >>= λ k. command_of (command_name c) (command_words c) >>= λ d. Some (Raw n m k d)) (number_back s hs)
    ∙ ap (λ o. o >>= λ m. number_of last_number (decimal q) >>= λ k. command_of (command_name c) (command_words c) >>= λ d. Some (Raw s m k d)) (number_back e he)
    ∙ ap (λ o. o >>= λ k. command_of (command_name c) (command_words c) >>= λ d. Some (Raw s e k d)) (number_back q hq)
    ∙ ap (λ o. o >>= λ d. Some (Raw s e q d)) (command_back c hc)

write_back : (s : ℕ) (c : Command) → is_number s ≡ true → is_command c ≡ true → write_line (command_name c) (decimal s ∷ command_words c) ≡ Some (Write s c)
unfolding write_line
write_back s c hs hc =
    ap (λ o. o >>= λ n. command_of (command_name c) (command_words c) >>= λ d. Some (Write n d)) (number_back s hs)
    ∙ ap (λ o. o >>= λ d. Some (Write s d)) (command_back c hc)

-- the name of a command is that of no other line
write_name : (c : Command) (w : List ℕ) (ws : List (List ℕ)) → of_words (command_name c ∷ w ∷ ws) ≡ write_line (command_name c) (w ∷ ws)
unfolding of_words entry_line
write_name (command.Operation (op.Create path flags bytes acl)) w ws = refl
write_name (command.Operation (op.Delete path version)) w ws = refl
write_name (command.Operation (op.Set path bytes version)) w ws = refl
write_name (command.Operation (op.Check path version)) w ws = refl
write_name (command.SetAcl path version acl) w ws = refl
write_name (command.Auth scheme auth) w ws = refl
write_name (command.Multi operations) w ws = refl
write_name (command.Sync path) w ws = refl
write_name command.Close w ws = refl

words_back : (l : StoreLine) → is_line l ≡ true → of_words (line_words l) ≡ Some l
unfolding of_words numbered_line numbered look_line look_at bare entry_line
words_back (Time t) h = ap (λ o. o >>= λ n. Some (Time n)) (number_back t h)
words_back (Open timeout passwd) h = open_back timeout passwd (left (is_timeout timeout) (is_passwd passwd) h) (right (is_timeout timeout) (is_passwd passwd) h)
words_back (Attach session passwd) h = attach_back session passwd (left (is_number session) (is_passwd passwd) h) (right (is_number session) (is_passwd passwd) h)
words_back (Expire session) h = ap (λ o. o >>= λ n. Some (Expire n)) (number_back session h)
words_back Noop h = refl
words_back (Write s c) h = write_name c (decimal s) (command_words c) ∙ write_back s c (left (is_number s) (is_command c) h) (right (is_number s) (is_command c) h)
words_back (Raw s e q c) h =
    let h1 = right (is_number s) (is_number e && (is_number q && is_command c)) h in
    let h2 = right (is_number e) (is_number q && is_command c) h1 in
    raw_back s e q c (left (is_number s) (is_number e && (is_number q && is_command c)) h) (left (is_number e) (is_number q && is_command c) h1) (left (is_number q) (is_command c) h2) (right (is_number q) (is_command c) h2)
words_back Commit h = refl
words_back (Truncate k) h = ap (λ o. o >>= λ n. Some (Truncate n)) (number_back k h)
words_back (Peek path) h = ap (λ o. o >>= λ p. Some (Peek p)) (path_is_read path h)
words_back (See path) h = ap (λ o. o >>= λ p. Some (See p)) (path_is_read path h)
words_back (Kids path) h = ap (λ o. o >>= λ p. Some (Kids p)) (path_is_read path h)
words_back (Ls path) h = ap (λ o. o >>= λ p. Some (Ls p)) (path_is_read path h)
words_back (Acl path) h = ap (λ o. o >>= λ p. Some (Acl p)) (path_is_read path h)
words_back (Who session) h = ap (λ o. o >>= λ n. Some (Who n)) (number_back session h)

-- a name that is visible, and one word
pair_parts : (name w : List ℕ) → is_part name ≡ true → is_part w ≡ true → list_all is_part (name ∷ w ∷ []) ≡ true
pair_parts name w n h = before name (w ∷ []) n (alone w h)

line_parts : (l : StoreLine) → is_line l ≡ true → list_all is_part (line_words l) ≡ true
line_parts (Time t) h = pair_parts (codes "time") (decimal t) (visible_part (codes "time") refl) (number_part t h)
line_parts (Open timeout passwd) h =
    before (codes "open") (decimal timeout ∷ encode_lower passwd ∷ []) (visible_part (codes "open") refl)
    (pair_parts (decimal timeout) (encode_lower passwd) (timeout_part timeout (left (is_timeout timeout) (is_passwd passwd) h)) (passwd_part passwd (right (is_timeout timeout) (is_passwd passwd) h)))
line_parts (Attach session passwd) h =
    before (codes "attach") (decimal session ∷ encode_lower passwd ∷ []) (visible_part (codes "attach") refl)
    (pair_parts (decimal session) (encode_lower passwd) (number_part session (left (is_number session) (is_passwd passwd) h)) (passwd_part passwd (right (is_number session) (is_passwd passwd) h)))
line_parts (Expire session) h = pair_parts (codes "expire") (decimal session) (visible_part (codes "expire") refl) (number_part session h)
line_parts Noop h = alone (codes "noop") (visible_part (codes "noop") refl)
line_parts (Write s c) h =
    before (command_name c) (decimal s ∷ command_words c) (name_part c)
    (before (decimal s) (command_words c) (number_part s (left (is_number s) (is_command c) h)) (command_parts c (right (is_number s) (is_command c) h)))
line_parts (Raw s e q c) h =
    let h1 = right (is_number s) (is_number e && (is_number q && is_command c)) h in
    let h2 = right (is_number e) (is_number q && is_command c) h1 in
    let cmd = before (command_name c) (command_words c) (name_part c) (command_parts c (right (is_number q) (is_command c) h2)) in
    let seq = before (decimal q) (command_name c ∷ command_words c) (number_part q (left (is_number q) (is_command c) h2)) cmd in
    let epoch = before (decimal e) (decimal q ∷ command_name c ∷ command_words c) (number_part e (left (is_number e) (is_number q && is_command c) h1)) seq in
    let session = before (decimal s) (decimal e ∷ decimal q ∷ command_name c ∷ command_words c) (number_part s (left (is_number s) (is_number e && (is_number q && is_command c)) h)) epoch in
    before (codes "raw") (decimal s ∷ decimal e ∷ decimal q ∷ command_name c ∷ command_words c) (visible_part (codes "raw") refl) session
line_parts Commit h = alone (codes "commit") (visible_part (codes "commit") refl)
line_parts (Truncate k) h = pair_parts (codes "truncate") (decimal k) (visible_part (codes "truncate") refl) (number_part k h)
line_parts (Peek path) h = pair_parts (codes "peek") path (visible_part (codes "peek") refl) (path_part path h)
line_parts (See path) h = pair_parts (codes "see") path (visible_part (codes "see") refl) (path_part path h)
line_parts (Kids path) h = pair_parts (codes "kids") path (visible_part (codes "kids") refl) (path_part path h)
line_parts (Ls path) h = pair_parts (codes "ls") path (visible_part (codes "ls") refl) (path_part path h)
line_parts (Acl path) h = pair_parts (codes "acl") path (visible_part (codes "acl") refl) (path_part path h)
line_parts (Who session) h = pair_parts (codes "who") (decimal session) (visible_part (codes "who") refl) (number_part session h)

-- ---- the law

line_is_spelled : (text : List ℕ) (l : StoreLine) → line_of text ≡ Some l → IsTrue (is_line l) × (text ≡ spelled l)
unfolding line_of spelled
line_is_spelled text l e =
    let c = first_way (is_utf8 text) (of_words (words_of text)) l e in
    let h = words_read (words_of text) l (words_are_parts text c.0) c.1 in
    (h.1, sym (words_are_all text) ∙ ap (join_with_byte 32) h.0)

spelling_is_read : (l : StoreLine) → IsTrue (is_line l) → line_of (spelled l) ≡ Some l
unfolding spelled
spelling_is_read l h = line_of_words (line_words l) l (line_parts l h) (words_back l h)

-- a text is read as a line exactly where it is the spelling of that line
pub read_as_spelled : (text : List ℕ) (l : StoreLine) → (line_of text ≡ Some l) ↔ (IsTrue (is_line l) × (text ≡ spelled l))
read_as_spelled text l = (line_is_spelled text l, λ h. ap line_of h.1 ∙ spelling_is_read l h.0)
