-- What a plan is, from its fields.
use Rattle.std.specs.Prelude.{◌≡◌, ℕ, ◌+◌, ◌≤◌, List, [], ◌∷◌, map}
use Rattle.cov_bits.specs.declared.part.Part.{Part}
use Rattle.cov_bits.specs.Layout.{AreSizes, width, bits}

-- the numbers of values
abbrev pub sizes_of : List Part → List ℕ
sizes_of ps = map (λ (p : Part). p.size) ps

-- the parts of variables with these numbers of values, from a bit on
abbrev pub parts_of : ℕ → List ℕ → List Part
parts_of from [] = []
parts_of from (n ∷ ns) = record { size = n; first = from; width = width n } ∷ parts_of (from + width n) ns

-- the parts follow each other from bit 0, and take at most 60 bits
pub record IsPlan (ps : List Part) (total : ℕ) : Type 0 where
  pub sized : AreSizes (sizes_of ps)
  pub laid : ps ≡ parts_of 0 (sizes_of ps)
  pub total_of : total ≡ bits (sizes_of ps)
  pub few : bits (sizes_of ps) ≤ 60
