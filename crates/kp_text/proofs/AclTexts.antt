-- Access lists and their words.
use Rattle.std.proofs.Common.{◌≡◌, ◌≢◌, ◌<◌, ◌≤◌, ◌^◌, ℕ, suc, Bool, true, false, cond, not, ◌&&◌, List, [], ◌∷◌, ◌++◌, length, get_or, map, Option, Some, None, arith, refl, sym, ap, subst, ◌∙◌, eqb-true}
use Rattle.std.specs.Prelude.{MatchOption}
use Rattle.std.specs.Option.{option_map}
use Rattle.std.specs.List.{list_all}
use Rattle.std.specs.Str.{bytes_eq}
use Rattle.std.specs.Fmt.{decimal}
use Rattle.std.specs.Char.{is_ascii_digit}
use Rattle.std.proofs.lemmas.Bool.Decides.{nat_tests}
use Rattle.std.proofs.lemmas.Slice.Eq.{bytes_eq-Decides}
use Rattle.std.proofs.lemmas.Fmt.{digits_decimal}
use Rattle.kp_model.specs.declared.node.Acl.{Acl}
use Rattle.kp_model.specs.Limits.{last_count}
use Rattle.kp_text.specs.Words.{◌>>=◌, number_of}
use Rattle.kp_model.specs.Colon.{is_colon}
use Rattle.kp_text.specs.AclWords.{behind, cut_at_colon, acl_of, acls_of, acl_list_of, acl_given_by}
use Rattle.kp_text.specs.Spelling.{is_part, is_int, has_no_colon, is_acl, are_acls, are_given_acls, spelled_acl, acl_words, given_words}
use Rattle.kp_text.proofs.Numerals.{own, left, right}
use Rattle.kp_text.proofs.Spelled.{both, number_is_spelled, spelled_is_read}
use Rattle.kp_text.proofs.LineWords.{must_fail}
use Rattle.kp_text.proofs.Parted.{no_space, part_at, joined_part}
use Rattle.kp_text.proofs.Visible.{all_more, decimal_part, visible_part}
use Rattle.kp_text.proofs.Choices.{bound, got}
use denote.Ref.{Bor}
use lib.Chars.{codes}

-- ---- a word, cut at its first colon

-- what a cut gives is what it was made of
abbrev IsCut : List ℕ → List ℕ × List ℕ → Type 0
IsCut w x = (w ≡ x.0 ++ 58 ∷ x.1) × (has_no_colon x.0 ≡ true)

behind_case : (b : ℕ) (bs : List ℕ) (x : List ℕ × List ℕ) (o : Option (List ℕ × List ℕ)) → ((y : List ℕ × List ℕ) → o ≡ Some y → IsCut bs y) → is_colon b ≡ false → behind b o ≡ Some x → IsCut (b ∷ bs) x
behind_case b bs x None so t e = absurd (cc)
behind_case b bs x (Some y) so t e =
    let h = so y refl in
    subst (IsCut (b ∷ bs)) (got (b ∷ y.0, y.1) x e) (ap (λ l. b ∷ l) h.0, both (not (is_colon b)) (has_no_colon y.0) (ap not t) h.1)

cut_case : (b : ℕ) (bs : List ℕ) (x : List ℕ × List ℕ) (t : Bool) → ((y : List ℕ × List ℕ) → cut_at_colon bs ≡ Some y → IsCut bs y) → is_colon b ≡ t → cond t (Some ([], bs)) (behind b (cut_at_colon bs)) ≡ Some x → IsCut (b ∷ bs) x
cut_case b bs x true so t e = subst (IsCut (b ∷ bs)) (got ([], bs) x e) (ap (λ c. c ∷ bs) (eqb-true b 58 t), refl)
cut_case b bs x false so t e = behind_case b bs x (cut_at_colon bs) so t e

cut_read : (w : List ℕ) (x : List ℕ × List ℕ) → cut_at_colon w ≡ Some x → IsCut w x
unfolding cut_at_colon
cut_read [] x e = absurd (cc)
cut_read (b ∷ bs) x e = cut_case b bs x (is_colon b) (cut_read bs) refl e

cut_joined : (p r : List ℕ) → has_no_colon p ≡ true → cut_at_colon (p ++ 58 ∷ r) ≡ Some (p, r)
unfolding cut_at_colon
cut_joined [] r h = refl
cut_joined (b ∷ p) r h =
    ap (λ t. cond t (Some ([], p ++ 58 ∷ r)) (behind b (cut_at_colon (p ++ 58 ∷ r)))) (no_space (is_colon b) (left (not (is_colon b)) (has_no_colon p) h))
    ∙ ap (behind b) (cut_joined p r (right (not (is_colon b)) (has_no_colon p) h))

other_byte : (b : ℕ) → b ≢ 58 → is_colon b ≡ false
other_byte b h = must_fail (is_colon b) (λ t. h (eqb-true b 58 t))

cut_nowhere : (w : List ℕ) → ((i : ℕ) → i < length w → get_or w i 0 ≢ 58) → cut_at_colon w ≡ None
unfolding cut_at_colon
cut_nowhere [] h = refl
cut_nowhere (b ∷ bs) h =
    ap (λ t. cond t (Some ([], bs)) (behind b (cut_at_colon bs))) (other_byte b (h 0 (omega arith)))
    ∙ ap (behind b) (cut_nowhere bs (λ i lt. h (suc i) (omega (arith, lt))))

no_colons : (w : List ℕ) → ((i : ℕ) → i < length w → get_or w i 0 ≢ 58) → has_no_colon w ≡ true
no_colons [] h = refl
no_colons (b ∷ bs) h = both (not (is_colon b)) (has_no_colon bs) (ap not (other_byte b (h 0 (omega arith)))) (no_colons bs (λ i lt. h (suc i) (omega (arith, lt))))

-- what std's cut at a colon gives
pub cut_gives : (w : List ℕ) (r : Option (Bor (List ℕ) × Bor (List ℕ)))
    → MatchOption r ((i : ℕ) → i < length w → get_or w i 0 ≢ 58) (λ x. (w ≡ x.0.now ++ (58 ∷ x.1.now)) × ((i : ℕ) → i < length x.0.now → get_or x.0.now i 0 ≢ 58))
    → option_map (λ x. (x.0.now, x.1.now)) r ≡ cut_at_colon w
cut_gives w None h = sym (cut_nowhere w h)
cut_gives w (Some x) h = sym (ap cut_at_colon h.0 ∙ cut_joined x.0.now x.1.now (no_colons x.0.now h.1))

-- ---- one line of an access list

int_fits : last_count < 2 ^ 64
int_fits = omega arith

pub int_within : (n : ℕ) → n ≤ last_count → is_int n ≡ true
int_within n h = grind (arith, nat_tests, h)

pub within_int : (n : ℕ) → is_int n ≡ true → n ≤ last_count
within_int n h = grind (arith, nat_tests, h)

acl_read : (w : List ℕ) (a : Acl) → is_part w ≡ true → acl_of w ≡ Some a → (w ≡ spelled_acl a) × (is_acl a ≡ true)
unfolding acl_of
acl_read w a part e =
    let o = bound (cut_at_colon w) _ a e in
    let i = bound (cut_at_colon o.0.1) _ a o.2 in
    let n = bound (number_of last_count o.0.0) _ a i.2 in
    let outer = cut_read w o.0 o.1 in
    let inner = cut_read o.0.1 i.0 i.1 in
    let number = number_is_spelled last_count n.0 o.0.0 int_fits n.1 in
    let whole = part_at 58 (omega arith) o.0.0 o.0.1 (subst (λ x. is_part x ≡ true) outer.0 part) in
    let rest = part_at 58 (omega arith) i.0.0 i.0.1 (subst (λ x. is_part x ≡ true) inner.0 whole.1) in
    subst (λ x. (w ≡ spelled_acl x) × (is_acl x ≡ true)) (got _ a n.2) (
      outer.0 ∙ ap (λ x. x ++ 58 ∷ o.0.1) number.0 ∙ ap (λ x. decimal n.0 ++ 58 ∷ x) inner.0,
      both (is_int n.0) ((has_no_colon i.0.0 && is_part i.0.0) && is_part i.0.1) (int_within n.0 number.1)
          (both (has_no_colon i.0.0 && is_part i.0.0) (is_part i.0.1) (both (has_no_colon i.0.0) (is_part i.0.0) inner.1 rest.0) rest.1),
    )

digit_no_colon : (b : ℕ) → is_ascii_digit b ≡ true → not (is_colon b) ≡ true
digit_no_colon b h = grind (arith, nat_tests, h)

pub small_int : (n : ℕ) → is_int n ≡ true → n < 2 ^ 64
small_int n h = let le = within_int n h in omega (arith, le)

decimal_no_colon : (n : ℕ) → is_int n ≡ true → has_no_colon (decimal n) ≡ true
decimal_no_colon n h = all_more is_ascii_digit (λ b. not (is_colon b)) digit_no_colon (decimal n) (digits_decimal own n (small_int n h))

-- the parts of a well-formed line
module _ (a : Acl) (h : is_acl a ≡ true) where
  perms_fit : is_int a.perms ≡ true
  perms_fit = left (is_int a.perms) ((has_no_colon a.scheme && is_part a.scheme) && is_part a.id) h

  texts_fit : ((has_no_colon a.scheme && is_part a.scheme) && is_part a.id) ≡ true
  texts_fit = right (is_int a.perms) ((has_no_colon a.scheme && is_part a.scheme) && is_part a.id) h

  scheme_fits : (has_no_colon a.scheme && is_part a.scheme) ≡ true
  scheme_fits = left (has_no_colon a.scheme && is_part a.scheme) (is_part a.id) texts_fit

  id_fits : is_part a.id ≡ true
  id_fits = right (has_no_colon a.scheme && is_part a.scheme) (is_part a.id) texts_fit

  cut_spelled : cut_at_colon (spelled_acl a) ≡ Some (decimal a.perms, a.scheme ++ 58 ∷ a.id)
  cut_spelled = cut_joined (decimal a.perms) (a.scheme ++ 58 ∷ a.id) (decimal_no_colon a.perms perms_fit)

  acl_back : acl_of (spelled_acl a) ≡ Some a
  unfolding acl_of
  acl_back =
      ap (λ o. o >>= λ outer. cut_at_colon outer.1 >>= λ inner. number_of last_count outer.0 >>= λ perms. Some (record { perms = perms; scheme = inner.0; id = inner.1 })) cut_spelled
      ∙ ap (λ o. o >>= λ inner. number_of last_count (decimal a.perms) >>= λ perms. Some (record { perms = perms; scheme = inner.0; id = inner.1 })) (cut_joined a.scheme a.id (left (has_no_colon a.scheme) (is_part a.scheme) scheme_fits))
      ∙ ap (λ o. o >>= λ perms. Some (record { perms = perms; scheme = a.scheme; id = a.id })) (spelled_is_read last_count a.perms (within_int a.perms perms_fit) int_fits)

  acl_part : is_part (spelled_acl a) ≡ true
  acl_part =
      joined_part 58 (omega arith) refl (decimal a.perms) (a.scheme ++ 58 ∷ a.id) (decimal_part a.perms (small_int a.perms perms_fit))
      (joined_part 58 (omega arith) refl a.scheme a.id (right (has_no_colon a.scheme) (is_part a.scheme) scheme_fits) id_fits)

no_cut : cut_at_colon (codes "noacl") ≡ None
unfolding cut_at_colon
no_cut = refl

none_some : {A : Type 0} (x : A) → Some x ≡ None → ⊥
none_some x e = cc e

not_noacl : (a : Acl) → is_acl a ≡ true → bytes_eq (spelled_acl a) (codes "noacl") ≡ false
not_noacl a h =
    must_fail (bytes_eq (spelled_acl a) (codes "noacl")) (λ t. none_some (decimal a.perms, a.scheme ++ 58 ∷ a.id) (sym (cut_spelled a h) ∙ ap cut_at_colon ((bytes_eq-Decides (spelled_acl a) (codes "noacl")).0 t) ∙ no_cut))

-- ---- lists

acls_read : (ws : List (List ℕ)) (acl : List Acl) → list_all is_part ws ≡ true → acls_of ws ≡ Some acl → (ws ≡ map spelled_acl acl) × (are_acls acl ≡ true)
unfolding acls_of
acls_read [] acl p e = subst (λ x. ([] ≡ map spelled_acl x) × (are_acls x ≡ true)) (got [] acl e) (refl, refl)
acls_read (w ∷ ws) acl p e =
    let a = bound (acl_of w) _ acl e in
    let m = bound (acls_of ws) _ acl a.2 in
    let one = acl_read w a.0 (left (is_part w) (list_all is_part ws) p) a.1 in
    let more = acls_read ws m.0 (right (is_part w) (list_all is_part ws) p) m.1 in
    subst (λ x. (w ∷ ws ≡ map spelled_acl x) × (are_acls x ≡ true)) (got (a.0 ∷ m.0) acl m.2)
    (ap (λ x. x ∷ ws) one.0 ∙ ap (λ x. spelled_acl a.0 ∷ x) more.0, both (is_acl a.0) (are_acls m.0) one.1 more.1)

acls_back : (acl : List Acl) → are_acls acl ≡ true → acls_of (map spelled_acl acl) ≡ Some acl
unfolding acls_of
acls_back [] h = refl
acls_back (a ∷ acl) h =
    ap (λ o. o >>= λ x. acls_of (map spelled_acl acl) >>= λ more. Some (x ∷ more)) (acl_back a (left (is_acl a) (are_acls acl) h))
    ∙ ap (λ o. o >>= λ more. Some (a ∷ more)) (acls_back acl (right (is_acl a) (are_acls acl) h))

acls_parts : (acl : List Acl) → are_acls acl ≡ true → list_all is_part (map spelled_acl acl) ≡ true
acls_parts [] h = refl
acls_parts (a ∷ acl) h =
    both (is_part (spelled_acl a)) (list_all is_part (map spelled_acl acl)) (acl_part a (left (is_acl a) (are_acls acl) h)) (acls_parts acl (right (is_acl a) (are_acls acl) h))

some_words : (w : List ℕ) (ws : List (List ℕ)) (acl : List Acl) → (w ∷ ws ≡ map spelled_acl acl) × (are_acls acl ≡ true) → (w ∷ ws ≡ acl_words acl) × (are_acls acl ≡ true)
some_words w ws [] h = let e = h.0 in absurd (cc)
some_words w ws (a ∷ acl) h = h

one_case : (w : List ℕ) (acl : List Acl) (t : Bool) → list_all is_part (w ∷ []) ≡ true → bytes_eq w (codes "noacl") ≡ t → cond t (Some []) (acls_of (w ∷ [])) ≡ Some acl → (w ∷ [] ≡ acl_words acl) × (are_acls acl ≡ true)
one_case w acl true p t e = subst (λ x. (w ∷ [] ≡ acl_words x) × (are_acls x ≡ true)) (got [] acl e) (ap (λ x. x ∷ []) ((bytes_eq-Decides w (codes "noacl")).0 t), refl)
one_case w acl false p t e = some_words w [] acl (acls_read (w ∷ []) acl p e)

pub acl_list_read : (ws : List (List ℕ)) (acl : List Acl) → list_all is_part ws ≡ true → acl_list_of ws ≡ Some acl → (ws ≡ acl_words acl) × (are_acls acl ≡ true)
acl_list_read [] acl p e = absurd (cc)
acl_list_read (w ∷ []) acl p e = one_case w acl (bytes_eq w (codes "noacl")) p refl e
acl_list_read (w ∷ v ∷ ws) acl p e = some_words w (v ∷ ws) acl (acls_read (w ∷ v ∷ ws) acl p e)

pub acl_list_back : (acl : List Acl) → are_acls acl ≡ true → acl_list_of (acl_words acl) ≡ Some acl
acl_list_back [] h = refl
acl_list_back (a ∷ []) h = ap (λ t. cond t (Some []) (acls_of (spelled_acl a ∷ []))) (not_noacl a (left (is_acl a) true h)) ∙ acls_back (a ∷ []) h
acl_list_back (a ∷ b ∷ acl) h = acls_back (a ∷ b ∷ acl) h

pub acl_list_parts : (acl : List Acl) → are_acls acl ≡ true → list_all is_part (acl_words acl) ≡ true
acl_list_parts [] h = both (is_part (codes "noacl")) true (visible_part (codes "noacl") refl) refl
acl_list_parts (a ∷ acl) h = acls_parts (a ∷ acl) h

pub given_read : (ws : List (List ℕ)) (o : Option (List Acl)) → list_all is_part ws ≡ true → acl_given_by ws ≡ Some o → (ws ≡ given_words o) × (are_given_acls o ≡ true)
given_read [] o p e = subst (λ x. ([] ≡ given_words x) × (are_given_acls x ≡ true)) (got None o e) (refl, refl)
given_read (w ∷ ws) o p e =
    let b = bound (acl_list_of (w ∷ ws)) _ o e in
    subst (λ x. (w ∷ ws ≡ given_words x) × (are_given_acls x ≡ true)) (got (Some b.0) o b.2) (acl_list_read (w ∷ ws) b.0 p b.1)

pub given_back : (o : Option (List Acl)) → are_given_acls o ≡ true → acl_given_by (given_words o) ≡ Some o
given_back None h = refl
given_back (Some []) h = refl
given_back (Some (a ∷ acl)) h = ap (λ r. r >>= λ x. Some (Some x)) (acl_list_back (a ∷ acl) h)

pub given_parts : (o : Option (List Acl)) → are_given_acls o ≡ true → list_all is_part (given_words o) ≡ true
given_parts None h = refl
given_parts (Some acl) h = acl_list_parts acl h
