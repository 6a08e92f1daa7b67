-- Numbers in a text.
use Rattle.std.specs.Prelude.{ℕ, ◌+◌, ◌*◌, ◌-◌, Bool, not, ◌&&◌, ◌==◌, nat_le, List, [], ◌∷◌, length, slice_index}
use Rattle.std.specs.List.{list_all}
use Rattle.cov_model.specs.Names.{is_digit}

-- one to nine decimal digits, of which the first is not 0
abbrev pub is_number : List ℕ → Bool
is_number bs = nat_le 1 (length bs) && nat_le (length bs) 9 && not (slice_index bs 0 == 48) && list_all is_digit bs

-- the number of a list of digits, behind those that were read
abbrev pub digits_number : ℕ → List ℕ → ℕ
digits_number n [] = n
digits_number n (b ∷ bs) = digits_number (n * 10 + (b - 48)) bs
