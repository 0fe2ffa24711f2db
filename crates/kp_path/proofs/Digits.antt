-- Running numbers in ten digits.
use Rattle.std.proofs.Common.{◌≡◌, ℕ, ◌+◌, ◌-◌, ◌<◌, ◌≤◌, ◌^◌, false, List, [], ◌++◌, length, replicate, decimal, ap, ◌∙◌, append-nil, arith}
use Rattle.std.specs.Fmt.{padded_integral, char_count, format_spec}
use Rattle.std.proofs.lemmas.Fmt.{length-decimal-le}
use Rattle.std.proofs.lemmas.List.{length-append, length-replicate}
use Rattle.kp_model.specs.Sequenced.{ten_digits, sequenced}

-- what `{:010}` writes of a number
pub padded_to_ten : (n : ℕ) → padded_integral (format_spec 32 0 4 10 (2 ^ 64 - 1)) false [] (decimal n) ≡ ten_digits n
unfolding padded_integral char_count
padded_to_ten n =
    let no_sign : 10 - length (decimal n) - 0 - 0 ≡ 10 - length (decimal n) = omega arith in
    ap (λ k. replicate k 48 ++ (decimal n ++ [])) no_sign
    ∙ ap (λ digits. replicate (10 - length (decimal n)) 48 ++ digits) (append-nil (decimal n))

-- a number of 32 bits has ten of them
pub length-ten_digits : (n : ℕ) → n < 2 ^ 32 → length (ten_digits n) ≡ 10
length-ten_digits n small =
    let short : length (decimal n) ≤ 10 = length-decimal-le 10 n (omega arith) (omega arith) (omega arith) in
    length-append (replicate (10 - length (decimal n)) 48) (decimal n)
    ∙ ap (λ k. k + length (decimal n)) (length-replicate (10 - length (decimal n)) 48)
    ∙ omega arith

pub length-sequenced : (path : List ℕ) (n : ℕ) → n < 2 ^ 32 → length (sequenced path n) ≡ length path + 10
unfolding sequenced
length-sequenced path n small = length-append path (ten_digits n) ∙ ap (λ k. length path + k) (length-ten_digits n small)
