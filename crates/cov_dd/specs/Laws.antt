-- Laws of reduced tables.
use Rattle.std.specs.Prelude.{◌≡◌, ℕ, List}
use Rattle.cov_dd.specs.declared.node.Ref.{Ref}
use Rattle.cov_dd.specs.declared.node.Part.{Part}
use Rattle.cov_dd.specs.Nodes.{TableOf, IsLive, IsTable, SameFunction}
use Rattle.cov_dd.specs.Reached.{AllLive, AllReached, SizeIsNeed}

-- in a reduced table two diagrams of one function are one
abbrev pub CanonicityLaw : Type 0
CanonicityLaw = (levels : ℕ) (nodes : List Part) → IsTable levels nodes → (f g : Ref) → IsLive nodes f → IsLive nodes g → SameFunction levels nodes f g → f ≡ g

-- a reduced table whose nodes are those that a list reaches has as many as the functions of the list need
abbrev pub SizeLaw : Type 0
SizeLaw = (t : TableOf) (refs : List Ref) → IsTable t.levels t.nodes → AllLive t.nodes refs → AllReached t.nodes refs → SizeIsNeed t refs
