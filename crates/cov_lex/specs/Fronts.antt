-- What the lexer finds at the front of a text, as the definition of tokens says it.
use Rattle.std.specs.Prelude.{ℕ, ◌<◌, ◌≤◌}
use Rattle.cov_syntax.specs.Tokens as spec
use Rattle.cov_lex.specs.declared.front.Front.{Front}
use Rattle.cov_lex.specs.declared.front.Front.TheVariants as f

-- the front that a value stands for
abbrev pub front_of : Front → spec.Front
front_of (f.Blank n) = spec.blank n
front_of (f.Token kind n) = spec.token kind n
front_of f.Nothing = spec.nothing

-- it has a byte at least, and no more than the text
abbrev pub IsWithin : Front → ℕ → Type 0
IsWithin (f.Blank n) len = (0 < n) × (n ≤ len)
IsWithin (f.Token kind n) len = (0 < n) × (n ≤ len)
IsWithin f.Nothing len = Unit {0}
