-- Walks along a list of places.
use Rattle.std.specs.Prelude.{Bool, ◌||◌, ◌&&◌, List, ◌∷◌}

-- whether a walk from the first place comes through places where it may stay to one where it may end, or to what comes
-- after the last place, where it may end or not
abbrev pub walks : List Bool → List Bool → Bool → Bool
walks (e ∷ ends) (s ∷ stays) after = e || (s && walks ends stays after)
walks _ _ after = after
