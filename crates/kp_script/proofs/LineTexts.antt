-- Lines and their words.
use Rattle.std.proofs.Common.{◌≡◌, ◌<◌, ◌^◌, ℕ, Bool, true, false, cond, inl, inr, List, [], ◌∷◌, Some, None, refl, sym, ap, subst, ◌∙◌}
use Rattle.std.specs.Prelude.{IsTrue, ◌↔◌}
use Rattle.std.specs.List.{list_all, join_with_byte}
use Rattle.std.specs.Str.{is_utf8, IsUtf8}
use Rattle.std.specs.Fmt.{decimal}
use Rattle.std.proofs.lemmas.Str.{IsUtf8-from_is_utf8, is_utf8-from_IsUtf8}
use Rattle.kp_model.specs.Grammar.{is_number}
use Rattle.kp_model.specs.Limits.{last_number}
use Rattle.kp_text.specs.Words.{◌>>=◌, words_of, number_of, path_of}
use Rattle.kp_text.specs.Lines.{one_number, is_look}
use Rattle.kp_text.specs.Spelling.{is_part, is_word}
use Rattle.kp_text.proofs.Numerals.{left, right}
use Rattle.kp_text.proofs.Spelled.{both}
use Rattle.kp_text.proofs.Visible.{visible_part}
use Rattle.kp_text.proofs.Hexadecimal.{first_way}
use Rattle.kp_text.proofs.Parted.{words_are_all, words_are_parts, words_joined, parts_plain, parts_utf8, joined_utf8}
use Rattle.kp_text.proofs.Choices.{bound, got, either_way, chosen_word, only_word}
use Rattle.kp_text.proofs.OperationTexts.{path_is_spelled, path_is_read, path_part, alone, before, head_part, tail_parts}
use Rattle.kp_text.proofs.LineTexts.{number_read, number_back, number_part}
use Rattle.kp_script.specs.Events.{node_of, one_node, event_of}
use Rattle.kp_script.specs.Lines.{time_line, torn_line, who_line, is_member, member_at, member_line, look_at, look_line, event_line, of_words, line_of}
use Rattle.kp_script.specs.Spelling.{is_node, is_event, is_look as may_look, is_line, event_words, line_words, spelled}
use Rattle.kp_script.specs.declared.event.EventLine.{EventLine}
use Rattle.kp_script.specs.declared.event.EventLine.TheVariants as event
use Rattle.kp_script.specs.declared.line.LookLine.{LookLine}
use Rattle.kp_script.specs.declared.line.LookLine.TheVariants as look
use Rattle.kp_script.specs.declared.line.ScriptLine.{ScriptLine}
use Rattle.kp_script.specs.declared.line.ScriptLine.TheVariants as script
use Rattle.kp_script.proofs.EventTexts.{node_read, pair_read, node_back, one_node_read, one_number_read, event_read, event_name, event_rest, event_parted, event_back, node_words, three_words, event_parts}
use lib.Chars.{codes}

-- ---- what is read as a line is spelled so

-- the words are the line's
abbrev IsWordsOf : ℕ → List (List ℕ) → ScriptLine → Type 0
IsWordsOf nodes ws l = (ws ≡ line_words l) × (is_line nodes l ≡ true)

named_so : (nodes : ℕ) (name v : List ℕ) (ws : List (List ℕ)) (l : ScriptLine) → name ≡ v → IsWordsOf nodes (v ∷ ws) l → IsWordsOf nodes (name ∷ ws) l
named_so nodes name v ws l e h = subst (λ x. IsWordsOf nodes (x ∷ ws) l) (sym e) h

time_read : (nodes : ℕ) (ws : List (List ℕ)) (l : ScriptLine) → time_line ws ≡ Some l → IsWordsOf nodes (codes "time" ∷ ws) l
unfolding time_line
time_read nodes ws l e =
    let b = bound (one_number ws) _ l e in
    let n = one_number_read ws b.0 b.1 in
    subst (IsWordsOf nodes (codes "time" ∷ ws)) (got (script.Time b.0) l b.2) (ap (λ x. codes "time" ∷ x) n.0, n.1)

torn_read : (nodes : ℕ) (ws : List (List ℕ)) (l : ScriptLine) → nodes < 2 ^ 64 → torn_line nodes ws ≡ Some l → IsWordsOf nodes (codes "torn" ∷ ws) l
unfolding torn_line
torn_read nodes [] l fits e = absurd (cc)
torn_read nodes (k ∷ []) l fits e = absurd (cc)
torn_read nodes (k ∷ name ∷ ws) l fits e =
    let p = bound (number_of last_number k) _ l e in
    let n = number_read k p.0 p.1 in
    let q = bound (event_of nodes name ws) _ l p.2 in
    let h = event_read nodes name ws q.0 fits q.1 in
    subst (IsWordsOf nodes (codes "torn" ∷ k ∷ name ∷ ws)) (got (script.Torn p.0 q.0) l q.2)
    (ap (λ x. codes "torn" ∷ x ∷ name ∷ ws) n.0 ∙ ap (λ x. codes "torn" ∷ decimal p.0 ∷ x) h.0, both (is_number p.0) (is_event nodes q.0) n.1 h.1)

who_read : (nodes : ℕ) (ws : List (List ℕ)) (l : ScriptLine) → nodes < 2 ^ 64 → who_line nodes ws ≡ Some l → IsWordsOf nodes (codes "who" ∷ ws) l
unfolding who_line
who_read nodes [] l fits e = absurd (cc)
who_read nodes (a ∷ []) l fits e = absurd (cc)
who_read nodes (a ∷ b ∷ []) l fits e =
    let p = pair_read nodes a b (λ n s. script.Look n (look.Who s)) l fits e in
    subst (IsWordsOf nodes (codes "who" ∷ a ∷ b ∷ [])) (got (script.Look p.0 (look.Who p.1.0)) l p.1.1.1.1) (ap (λ ws. codes "who" ∷ ws) p.1.1.0, p.1.1.1.0)
who_read nodes (a ∷ b ∷ c ∷ ws) l fits e = absurd (cc)

member_read : (nodes : ℕ) (name : List ℕ) (n : ℕ) (l : ScriptLine) → is_node nodes n ≡ true → member_at name n ≡ Some l → IsWordsOf nodes (name ∷ decimal n ∷ []) l
unfolding member_at
member_read nodes name n l h e =
    let ws = decimal n ∷ [] in
    elim (chosen_word name (codes "crash") (Some (script.Crash n)) _ l e) [
      | inl c ↦ named_so nodes name (codes "crash") ws l c.0 (subst (IsWordsOf nodes (codes "crash" ∷ ws)) (got (script.Crash n) l c.1) (refl, h))
      | inr e1 ↦ elim (chosen_word name (codes "start") (Some (script.Start n)) _ l e1) [
        | inl c ↦ named_so nodes name (codes "start") ws l c.0 (subst (IsWordsOf nodes (codes "start" ∷ ws)) (got (script.Start n) l c.1) (refl, h))
        | inr e2 ↦ elim (chosen_word name (codes "hold") (Some (script.Hold n)) _ l e2) [
          | inl c ↦ named_so nodes name (codes "hold") ws l c.0 (subst (IsWordsOf nodes (codes "hold" ∷ ws)) (got (script.Hold n) l c.1) (refl, h))
          | inr e3 ↦ let c = only_word name (codes "flush") (Some (script.Flush n)) l e3 in named_so nodes name (codes "flush") ws l c.0 (subst (IsWordsOf nodes (codes "flush" ∷ ws)) (got (script.Flush n) l c.1) (refl, h))
        ]
      ]
    ]

member_line_read : (nodes : ℕ) (name : List ℕ) (ws : List (List ℕ)) (l : ScriptLine) → nodes < 2 ^ 64 → member_line nodes name ws ≡ Some l → IsWordsOf nodes (name ∷ ws) l
unfolding member_line
member_line_read nodes name ws l fits e =
    let b = bound (one_node nodes ws) (λ n. member_at name n) l e in
    let n = one_node_read nodes ws b.0 fits b.1 in
    subst (λ x. IsWordsOf nodes (name ∷ x) l) (sym n.0) (member_read nodes name b.0 l n.1 b.2)

-- a look is of the name that it was asked by
abbrev IsLookOf : List ℕ → List ℕ → LookLine → Type 0
IsLookOf name path l = ((n : ℕ) → name ∷ decimal n ∷ path ∷ [] ≡ line_words (script.Look n l)) × (may_look l ≡ true)

look_named : (name v path : List ℕ) (l : LookLine) → name ≡ v → IsLookOf v path l → IsLookOf name path l
look_named name v path l e h = subst (λ x. IsLookOf x path l) (sym e) h

look_read : (name p : List ℕ) (l : LookLine) → is_word p ≡ true → look_at name p ≡ Some l → IsLookOf name p l
unfolding look_at
look_read name p l h e =
    elim (chosen_word name (codes "peek") (Some (look.Peek p)) _ l e) [
      | inl c ↦ look_named name (codes "peek") p l c.0 (subst (IsLookOf (codes "peek") p) (got (look.Peek p) l c.1) (λ n. refl, h))
      | inr e1 ↦ elim (chosen_word name (codes "see") (Some (look.See p)) _ l e1) [
        | inl c ↦ look_named name (codes "see") p l c.0 (subst (IsLookOf (codes "see") p) (got (look.See p) l c.1) (λ n. refl, h))
        | inr e2 ↦ elim (chosen_word name (codes "kids") (Some (look.Kids p)) _ l e2) [
          | inl c ↦ look_named name (codes "kids") p l c.0 (subst (IsLookOf (codes "kids") p) (got (look.Kids p) l c.1) (λ n. refl, h))
          | inr e3 ↦ elim (chosen_word name (codes "ls") (Some (look.Ls p)) _ l e3) [
            | inl c ↦ look_named name (codes "ls") p l c.0 (subst (IsLookOf (codes "ls") p) (got (look.Ls p) l c.1) (λ n. refl, h))
            | inr e4 ↦ let c = only_word name (codes "acl") (Some (look.Acl p)) l e4 in look_named name (codes "acl") p l c.0 (subst (IsLookOf (codes "acl") p) (got (look.Acl p) l c.1) (λ n. refl, h))
          ]
        ]
      ]
    ]

look_line_read : (nodes : ℕ) (name : List ℕ) (ws : List (List ℕ)) (l : ScriptLine) → nodes < 2 ^ 64 → list_all is_part ws ≡ true → look_line nodes name ws ≡ Some l → IsWordsOf nodes (name ∷ ws) l
unfolding look_line
look_line_read nodes name [] l fits parts e = absurd (cc)
look_line_read nodes name (a ∷ []) l fits parts e = absurd (cc)
look_line_read nodes name (a ∷ b ∷ []) l fits parts e =
    let p = bound (node_of nodes a) _ l e in
    let n = node_read nodes a p.0 fits p.1 in
    let q = bound (path_of b) _ l p.2 in
    let w = path_is_spelled b q.0 (head_part b [] (tail_parts a (b ∷ []) parts)) q.1 in
    let r = bound (look_at name q.0) _ l q.2 in
    let h = look_read name q.0 r.0 w.1 r.1 in
    subst (IsWordsOf nodes (name ∷ a ∷ b ∷ [])) (got (script.Look p.0 r.0) l r.2)
    (ap (λ x. name ∷ x ∷ b ∷ []) n.0 ∙ ap (λ x. name ∷ decimal p.0 ∷ x ∷ []) w.0 ∙ h.0 p.0, both (is_node nodes p.0) (may_look r.0) n.1 h.1)
look_line_read nodes name (a ∷ b ∷ c ∷ ws) l fits parts e = absurd (cc)

event_line_read : (nodes : ℕ) (name : List ℕ) (ws : List (List ℕ)) (l : ScriptLine) → nodes < 2 ^ 64 → event_line nodes name ws ≡ Some l → IsWordsOf nodes (name ∷ ws) l
unfolding event_line
event_line_read nodes name ws l fits e =
    let b = bound (event_of nodes name ws) _ l e in
    let h = event_read nodes name ws b.0 fits b.1 in
    subst (IsWordsOf nodes (name ∷ ws)) (got (script.Event b.0) l b.2) h

words_read : (nodes : ℕ) (ws : List (List ℕ)) (l : ScriptLine) → nodes < 2 ^ 64 → list_all is_part ws ≡ true → of_words nodes ws ≡ Some l → IsWordsOf nodes ws l
unfolding of_words
words_read nodes [] l fits parts e = absurd (cc)
words_read nodes (name ∷ ws) l fits parts e = elim (chosen_word name (codes "time") (time_line ws) _ l e) [
  | inl c ↦ named_so nodes name (codes "time") ws l c.0 (time_read nodes ws l c.1)
  | inr e1 ↦ elim (chosen_word name (codes "torn") (torn_line nodes ws) _ l e1) [
    | inl c ↦ named_so nodes name (codes "torn") ws l c.0 (torn_read nodes ws l fits c.1)
    | inr e2 ↦ elim (chosen_word name (codes "who") (who_line nodes ws) _ l e2) [
      | inl c ↦ named_so nodes name (codes "who") ws l c.0 (who_read nodes ws l fits c.1)
      | inr e3 ↦ elim (either_way (is_member name) (member_line nodes name ws) _ l e3) [
        | inl h ↦ member_line_read nodes name ws l fits h
        | inr e4 ↦ elim (either_way (is_look name) (look_line nodes name ws) _ l e4) [
          | inl h ↦ look_line_read nodes name ws l fits (tail_parts name ws parts) h
          | inr h ↦ event_line_read nodes name ws l fits h
        ]
      ]
    ]
  ]
]

-- ---- what is spelled so is read

time_back : (t : ℕ) → is_number t ≡ true → time_line (decimal t ∷ []) ≡ Some (script.Time t)
unfolding time_line
time_back t h = ap (λ o. o >>= λ k. Some (script.Time k)) (number_back t h)

torn_back : (nodes kept : ℕ) (e : EventLine) → nodes < 2 ^ 64 → is_number kept ≡ true → is_event nodes e ≡ true → torn_line nodes (decimal kept ∷ event_words e) ≡ Some (script.Torn kept e)
unfolding torn_line
torn_back nodes kept e fits k h =
    ap (λ (ws : List (List ℕ)). torn_line nodes (decimal kept ∷ ws)) (event_parted e)
    ∙ ap (λ o. o >>= λ n. event_of nodes (event_name e) (event_rest e) >>= λ x. Some (script.Torn n x)) (number_back kept k)
    ∙ ap (λ o. o >>= λ x. Some (script.Torn kept x)) (event_back nodes e fits h)

who_back : (nodes n session : ℕ) → nodes < 2 ^ 64 → is_node nodes n ≡ true → is_number session ≡ true → who_line nodes (decimal n ∷ decimal session ∷ []) ≡ Some (script.Look n (look.Who session))
unfolding who_line
who_back nodes n session fits h s =
    ap (λ o. o >>= λ k. number_of last_number (decimal session) >>= λ m. Some (script.Look k (look.Who m))) (node_back nodes n fits h)
    ∙ ap (λ o. o >>= λ m. Some (script.Look n (look.Who m))) (number_back session s)

member_back : (nodes n : ℕ) (name : List ℕ) (l : ScriptLine) → nodes < 2 ^ 64 → is_node nodes n ≡ true → member_at name n ≡ Some l → member_line nodes name (decimal n ∷ []) ≡ Some l
unfolding member_line
member_back nodes n name l fits h e = ap (λ o. o >>= λ k. member_at name k) (node_back nodes n fits h) ∙ e

look_back : (nodes n : ℕ) (name path : List ℕ) (l : LookLine) → nodes < 2 ^ 64 → is_node nodes n ≡ true → is_word path ≡ true → look_at name path ≡ Some l → look_line nodes name (decimal n ∷ path ∷ []) ≡ Some (script.Look n l)
unfolding look_line
look_back nodes n name path l fits h w e =
    ap (λ o. o >>= λ k. path_of path >>= λ p. look_at name p >>= λ it. Some (script.Look k it)) (node_back nodes n fits h)
    ∙ ap (λ o. o >>= λ p. look_at name p >>= λ it. Some (script.Look n it)) (path_is_read path w)
    ∙ ap (λ o. o >>= λ it. Some (script.Look n it)) e

-- the name of an event is none of the other lines
event_line_back : (nodes : ℕ) (e : EventLine) → nodes < 2 ^ 64 → is_event nodes e ≡ true → event_line nodes (event_name e) (event_rest e) ≡ Some (script.Event e)
unfolding event_line
event_line_back nodes e fits h = ap (λ o. o >>= λ x. Some (script.Event x)) (event_back nodes e fits h)

event_words_back : (nodes : ℕ) (e : EventLine) → nodes < 2 ^ 64 → is_event nodes e ≡ true → of_words nodes (event_words e) ≡ event_line nodes (event_name e) (event_rest e)
unfolding of_words
event_words_back nodes (event.Accept n draw) fits h = refl
event_words_back nodes (event.In n conn bytes) fits h = refl
event_words_back nodes (event.Hangup n conn) fits h = refl
event_words_back nodes (event.Drain n conn) fits h = refl
event_words_back nodes (event.Timeout n) fits h = refl
event_words_back nodes (event.Deliver m) fits h = refl
event_words_back nodes (event.Beat n) fits h = refl
event_words_back nodes (event.Commit n) fits h = refl
event_words_back nodes (event.Expire n) fits h = refl
event_words_back nodes (event.Snap n) fits h = refl

look_words_back : (nodes n : ℕ) (l : LookLine) → nodes < 2 ^ 64 → is_node nodes n ≡ true → may_look l ≡ true → of_words nodes (line_words (script.Look n l)) ≡ Some (script.Look n l)
unfolding of_words look_at
look_words_back nodes n (look.Peek path) fits h w = look_back nodes n (codes "peek") path (look.Peek path) fits h w refl
look_words_back nodes n (look.See path) fits h w = look_back nodes n (codes "see") path (look.See path) fits h w refl
look_words_back nodes n (look.Kids path) fits h w = look_back nodes n (codes "kids") path (look.Kids path) fits h w refl
look_words_back nodes n (look.Ls path) fits h w = look_back nodes n (codes "ls") path (look.Ls path) fits h w refl
look_words_back nodes n (look.Acl path) fits h w = look_back nodes n (codes "acl") path (look.Acl path) fits h w refl
look_words_back nodes n (look.Who session) fits h w = who_back nodes n session fits h w

words_back : (nodes : ℕ) (l : ScriptLine) → nodes < 2 ^ 64 → is_line nodes l ≡ true → of_words nodes (line_words l) ≡ Some l
unfolding of_words member_at
words_back nodes (script.Time t) fits h = time_back t h
words_back nodes (script.Event e) fits h = event_words_back nodes e fits h ∙ event_line_back nodes e fits h
words_back nodes (script.Torn kept e) fits h = torn_back nodes kept e fits (left (is_number kept) (is_event nodes e) h) (right (is_number kept) (is_event nodes e) h)
words_back nodes (script.Crash n) fits h = member_back nodes n (codes "crash") (script.Crash n) fits h refl
words_back nodes (script.Start n) fits h = member_back nodes n (codes "start") (script.Start n) fits h refl
words_back nodes (script.Hold n) fits h = member_back nodes n (codes "hold") (script.Hold n) fits h refl
words_back nodes (script.Flush n) fits h = member_back nodes n (codes "flush") (script.Flush n) fits h refl
words_back nodes (script.Look n l) fits h = look_words_back nodes n l fits (left (is_node nodes n) (may_look l) h) (right (is_node nodes n) (may_look l) h)

-- ---- each word is a part of a line

look_parts : (nodes n : ℕ) (l : LookLine) → nodes < 2 ^ 64 → is_node nodes n ≡ true → may_look l ≡ true → list_all is_part (line_words (script.Look n l)) ≡ true
look_parts nodes n (look.Peek path) fits h w = three_words nodes n (codes "peek") path fits h (visible_part (codes "peek") refl) (path_part path w)
look_parts nodes n (look.See path) fits h w = three_words nodes n (codes "see") path fits h (visible_part (codes "see") refl) (path_part path w)
look_parts nodes n (look.Kids path) fits h w = three_words nodes n (codes "kids") path fits h (visible_part (codes "kids") refl) (path_part path w)
look_parts nodes n (look.Ls path) fits h w = three_words nodes n (codes "ls") path fits h (visible_part (codes "ls") refl) (path_part path w)
look_parts nodes n (look.Acl path) fits h w = three_words nodes n (codes "acl") path fits h (visible_part (codes "acl") refl) (path_part path w)
look_parts nodes n (look.Who session) fits h w = three_words nodes n (codes "who") (decimal session) fits h (visible_part (codes "who") refl) (number_part session w)

line_parts : (nodes : ℕ) (l : ScriptLine) → nodes < 2 ^ 64 → is_line nodes l ≡ true → list_all is_part (line_words l) ≡ true
line_parts nodes (script.Time t) fits h = before (codes "time") (decimal t ∷ []) (visible_part (codes "time") refl) (alone (decimal t) (number_part t h))
line_parts nodes (script.Event e) fits h = event_parts nodes e fits h
line_parts nodes (script.Torn kept e) fits h =
    before (codes "torn") (decimal kept ∷ event_words e) (visible_part (codes "torn") refl)
    (before (decimal kept) (event_words e) (number_part kept (left (is_number kept) (is_event nodes e) h)) (event_parts nodes e fits (right (is_number kept) (is_event nodes e) h)))
line_parts nodes (script.Crash n) fits h = node_words nodes n (codes "crash") fits h (visible_part (codes "crash") refl)
line_parts nodes (script.Start n) fits h = node_words nodes n (codes "start") fits h (visible_part (codes "start") refl)
line_parts nodes (script.Hold n) fits h = node_words nodes n (codes "hold") fits h (visible_part (codes "hold") refl)
line_parts nodes (script.Flush n) fits h = node_words nodes n (codes "flush") fits h (visible_part (codes "flush") refl)
line_parts nodes (script.Look n l) fits h = look_parts nodes n l fits (left (is_node nodes n) (may_look l) h) (right (is_node nodes n) (may_look l) h)

-- ---- the law

line_is_spelled : (nodes : ℕ) (text : List ℕ) (l : ScriptLine) → nodes < 2 ^ 64 → line_of nodes text ≡ Some l → IsTrue (is_line nodes l) × (text ≡ spelled l)
unfolding line_of spelled
line_is_spelled nodes text l fits e =
    let c = first_way (is_utf8 text) (of_words nodes (words_of text)) l e in
    let h = words_read nodes (words_of text) l fits (words_are_parts text c.0) c.1 in
    (h.1, sym (words_are_all text) ∙ ap (join_with_byte 32) h.0)

-- words joined by spaces are read as those words
joined_line : (nodes : ℕ) (ws : List (List ℕ)) (l : ScriptLine) → list_all is_part ws ≡ true → of_words nodes ws ≡ Some l → line_of nodes (join_with_byte 32 ws) ≡ Some l
unfolding line_of of_words
joined_line nodes [] l parts e = absurd (cc)
joined_line nodes (w ∷ ws) l parts e =
    ap (λ b. cond b (of_words nodes (words_of (join_with_byte 32 (w ∷ ws)))) None) (is_utf8-from_IsUtf8 (join_with_byte 32 (w ∷ ws)) (joined_utf8 (w ∷ ws) (parts_utf8 (w ∷ ws) parts)))
    ∙ ap (of_words nodes) (words_joined w ws (parts_plain (w ∷ ws) parts)) ∙ e

spelling_is_read : (nodes : ℕ) (l : ScriptLine) → nodes < 2 ^ 64 → IsTrue (is_line nodes l) → line_of nodes (spelled l) ≡ Some l
unfolding spelled
spelling_is_read nodes l fits h = joined_line nodes (line_words l) l (line_parts nodes l fits h) (words_back nodes l fits h)

-- a text is read as a line exactly where it is the spelling of that line
pub read_as_spelled : (nodes : ℕ) (text : List ℕ) (l : ScriptLine) → nodes < 2 ^ 64 → (line_of nodes text ≡ Some l) ↔ (IsTrue (is_line nodes l) × (text ≡ spelled l))
read_as_spelled nodes text l fits = (line_is_spelled nodes text l fits, λ h. ap (line_of nodes) h.1 ∙ spelling_is_read nodes l fits h.0)

-- ---- whether a text is a line at all

must_fail : (b : Bool) → (b ≡ true → ⊥) → b ≡ false
must_fail true h = absurd (h refl)
must_fail false h = refl

pub no_line : (nodes : ℕ) (text : List ℕ) → (IsUtf8 text → ⊥) → line_of nodes text ≡ None
unfolding line_of
no_line nodes text h = ap (λ b. cond b (of_words nodes (words_of text)) None) (must_fail (is_utf8 text) (λ e. h (IsUtf8-from_is_utf8 text e)))

pub text_line : (nodes : ℕ) (text : List ℕ) → IsUtf8 text → line_of nodes text ≡ of_words nodes (words_of text)
unfolding line_of
text_line nodes text h = ap (λ b. cond b (of_words nodes (words_of text)) None) (is_utf8-from_IsUtf8 text h)
