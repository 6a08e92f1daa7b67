-- What a word does to the words that are sorted.
use Rattle.std.proofs.Common.{ℕ, ◌≡◌, ◌≤◌, List, [], ◌∷◌, Option, Some, None, Ok, Err, refl, sym, ◌∙◌, ap, true, false, drop, length, drop_of_length-le, codes, Bool, if◌then◌else◌, subst, arith}
use Rattle.std.specs.Str.{bytes_eq}
use Rattle.std.proofs.lemmas.List.{append-nil}
use Rattle.cov_words.specs.Words.{Sorted, sorted, is_positional, takes_value, with_positional, with_all, with_value, with_joined}
use Rattle.cov_words.specs.Sorting.{IsBrief, next_value, GoesOn, Sorts, Steps}
use Rattle.cov_words.specs.declared.brief.Brief.{Brief}
use Rattle.cov_words.specs.declared.job.WordsFault.{WordsFault}
use Rattle.cov_words.specs.declared.job.WordsFault.TheVariants.{Words, Memory}

-- what is sorted behind an option, where it is one
abbrev pub go_on : List (List ℕ) → Option Sorted → Option Sorted
go_on ws None = None
go_on ws (Some t) = sorted ws t

-- a word that is no option is positional
pub by_positional : (w : List ℕ) (ws : List (List ℕ)) (s : Sorted) → bytes_eq w (codes "--") ≡ false → is_positional w ≡ true → sorted (w ∷ ws) s ≡ sorted ws (with_positional w s)
by_positional w [] s h p = rw (h, p)
by_positional w (v ∷ ws) s h p = rw (h, p)

-- a test that gave a word
taken : (b : Bool) (u v : List ℕ) → Some v ≡ (if b then Some u else None) → (b ≡ true) × (v ≡ u)
taken true u v n = (refl, cc)
taken false u v n = cc

not_taken : (b : Bool) (u : List ℕ) → None ≡ (if b then Some u else None) → b ≡ false
not_taken true u n = cc
not_taken false u n = refl

-- an option whose value is the next word
pub by_value : (w v : List ℕ) (ws : List (List ℕ)) (s : Sorted) → bytes_eq w (codes "--") ≡ false → is_positional w ≡ false → Some v ≡ next_value w ws → sorted (w ∷ ws) s ≡ go_on (drop 1 ws) (with_value w v s)
by_value w v [] s h p n = cc
by_value w v (u ∷ ws) s h p n =
    let t = taken (takes_value w) u v n in
    rw (h, p, t.0, t.1) refl

go_on-none : (r : Option Sorted) → r ≡ go_on [] r
go_on-none None = refl
go_on-none (Some t) = refl

-- an option that holds its value
joined : (w : List ℕ) (ws : List (List ℕ)) (s : Sorted) → bytes_eq w (codes "--") ≡ false → is_positional w ≡ false → None ≡ next_value w ws → sorted (w ∷ ws) s ≡ go_on ws (with_joined w s)
joined w [] s h p n = rw (h, p) (go_on-none (with_joined w s))
joined w (u ∷ ws) s h p n =
    let t = not_taken (takes_value w) u n in
    rw (h, p, t) refl

-- the same of its bytes
pub by_joined : (w bytes : List ℕ) (ws : List (List ℕ)) (s : Sorted) → bytes ≡ w → bytes_eq w (codes "--") ≡ false → is_positional w ≡ false → None ≡ next_value w ws → sorted (w ∷ ws) s ≡ go_on ws (with_joined bytes s)
by_joined w bytes ws s same h p n = subst (λ x. sorted (w ∷ ws) s ≡ go_on ws (with_joined x s)) (sym same) (joined w ws s h p n)

-- after `--` every word is positional
pub by_dashes : (w : List ℕ) (ws : List (List ℕ)) (s : Sorted) → bytes_eq w (codes "--") ≡ true → sorted (w ∷ ws) s ≡ Some (with_all ws s)
by_dashes w [] s h = rw (h, append-nil s.positional) refl
by_dashes w (v ∷ ws) s h = rw h refl

-- what is kept behind all words
pub ends : (w : List ℕ) (ws : List (List ℕ)) (s : Sorted) (b : Brief) (n : ℕ) → bytes_eq w (codes "--") ≡ true → n ≡ length ws → IsBrief b (with_all ws s) → GoesOn w ws s (record { sorted = b; taken = n })
ends w ws s b n h e k =
    let none : drop n ws ≡ [] = drop_of_length-le ws (omega arith) in
    record {
      after = with_all ws s;
      brief = k;
      more = by_dashes w ws s h ∙ sym (ap (λ vs. sorted vs (with_all ws s)) none);
      within = omega arith;
    }

-- what is kept behind a word, where it is sorted
pub goes_on : (w : List ℕ) (ws : List (List ℕ)) (s : Sorted) (n : ℕ) (r : Option Sorted) (b : Brief) → sorted (w ∷ ws) s ≡ go_on (drop n ws) r → n ≤ length ws → Sorts (Ok b) r → GoesOn w ws s (record { sorted = b; taken = n })
goes_on w ws s n r b e h k = record {
  after = k.0;
  brief = k.1;
  more = e ∙ ap (go_on (drop n ws)) k.2;
  within = h;
}

-- where it is not sorted, nothing is
pub stops : (w : List ℕ) (ws : List (List ℕ)) (s : Sorted) (n : ℕ) (r : Option Sorted) (e : WordsFault) → sorted (w ∷ ws) s ≡ go_on (drop n ws) r → Sorts (Err e) r → Steps w ws s (Err e)
stops w ws s n r Words e h = e ∙ ap (go_on (drop n ws)) h
stops w ws s n r Memory e h = tt

-- a next word that is a value is there
pub value_within : (w v : List ℕ) (ws : List (List ℕ)) → Some v ≡ next_value w ws → 1 ≤ length ws
value_within w v [] n = cc
value_within w v (u ∷ ws) n = omega arith
