-- A text is cut at its LFs.
use Rattle.std.proofs.Common.{◌≡◌, ℕ, suc, ◌+◌, ◌<◌, ◌≤◌, Bool, true, false, [], ◌∷◌, ◌++◌, length, take, drop, refl, ap, ◌∙◌, arith, add-one, inl, inr}
use Rattle.std.specs.Prelude.{◌⊎◌, ◌==◌, IsTrue, not}
use Rattle.std.specs.List.{list_all, prefix_len}
use Rattle.std.proofs.lemmas.Bool.{cases_lt, eqb-true}
use Rattle.std.proofs.lemmas.List.{take_all}
use Rattle.cov_syntax.specs.Tokens.{Text, line_len}
use Rattle.cov_evid.specs.FirstFault.{pieces, onto_first}
use Rattle.cov_evid.specs.Cursors.{Cursor, IsLast, IsNext, piece}

-- one more byte before a line
longer : (b : ℕ) (z : Text) → (b == 10) ≡ false → line_len (b ∷ z) ≡ suc (line_len z)
longer b z e = rw e (ap (λ (n : ℕ). length (take n (b ∷ z))) (one (prefix_len (λ c. not (c == 10)) z)))
  where
    one : (n : ℕ) → 1 + n ≡ suc n
    one n = omega arith

shortest : (b : ℕ) (z : Text) → (b == 10) ≡ true → line_len (b ∷ z) ≡ 0
shortest b z e = rw e refl

-- the text is the next line, its LF and what follows
text_next : (z : Text) → line_len z < length z → z ≡ take (line_len z) z ++ 10 ∷ drop (suc (line_len z)) z
text_next [] h = absurd (omega arith)
text_next (b ∷ z) h = by (b == 10) refl (text_next z)
  where
    by : (e : Bool) → (b == 10) ≡ e → (line_len z < length z → z ≡ take (line_len z) z ++ 10 ∷ drop (suc (line_len z)) z)
        → (b ∷ z) ≡ take (line_len (b ∷ z)) (b ∷ z) ++ 10 ∷ drop (suc (line_len (b ∷ z))) (b ∷ z)
    by true e further = let is : b ≡ 10 = eqb-true b 10 e in rw (shortest b z e) (ap (λ (c : ℕ). c ∷ z) is)
    by false e further = let less : line_len z < length z = omega (arith, longer b z e, h) in rw (longer b z e) (ap (λ (t : Text). b ∷ t) (further less))

pieces_next : (z : Text) → line_len z < length z → pieces z ≡ take (line_len z) z ∷ pieces (drop (suc (line_len z)) z)
pieces_next [] h = absurd (omega arith)
pieces_next (b ∷ z) h = by (b == 10) refl (pieces_next z)
  where
    by : (e : Bool) → (b == 10) ≡ e → (line_len z < length z → pieces z ≡ take (line_len z) z ∷ pieces (drop (suc (line_len z)) z))
        → pieces (b ∷ z) ≡ take (line_len (b ∷ z)) (b ∷ z) ∷ pieces (drop (suc (line_len (b ∷ z))) (b ∷ z))
    by true e further = rw (shortest b z e, e) refl
    by false e further = let less : line_len z < length z = omega (arith, longer b z e, h) in rw (longer b z e, e) (ap (onto_first b) (further less))

pieces_last : (z : Text) → length z ≤ line_len z → pieces z ≡ z ∷ []
pieces_last [] h = refl
pieces_last (b ∷ z) h = by (b == 10) refl (pieces_last z)
  where
    by : (e : Bool) → (b == 10) ≡ e → (length z ≤ line_len z → pieces z ≡ z ∷ []) → pieces (b ∷ z) ≡ (b ∷ z) ∷ []
    by true e further = absurd (omega (arith, shortest b z e, h))
    by false e further = let least : length z ≤ line_len z = omega (arith, longer b z e, h) in rw e (ap (onto_first b) (further least))

-- no LF stands in it
abbrev pub is_line : Text → Bool
is_line t = list_all (λ b. not (b == 10)) t

pub pieces_line : (line z : Text) → IsTrue (is_line line) → pieces (line ++ 10 ∷ z) ≡ line ∷ pieces z
pieces_line [] z h = refl
pieces_line (b ∷ line) z h = by (b == 10) refl (pieces_line line z)
  where
    by : (e : Bool) → (b == 10) ≡ e → (IsTrue (is_line line) → pieces (line ++ 10 ∷ z) ≡ line ∷ pieces z) → pieces ((b ∷ line) ++ 10 ∷ z) ≡ (b ∷ line) ∷ pieces z
    by true e further = absurd (let no = rw e at h in cc)
    by false e further = let goes : IsTrue (is_line line) = rw e at h in rw e (ap (onto_first b) (further goes))

-- the next line was taken
pub is_next : (old new : Cursor) (line : Text) → line ≡ take (line_len old.rest) old.rest → new.rest ≡ drop (line_len old.rest + 1) old.rest → new.number ≡ old.number + 1
    → line_len old.rest < length old.rest → IsNext old line new
is_next old new line l r n less =
    let rest : new.rest ≡ drop (suc (line_len old.rest)) old.rest = r ∙ ap (λ (n : ℕ). drop n old.rest) (add-one (line_len old.rest)) in
    record {
      front = l;
      text = rw (l, rest) (text_next old.rest less);
      left = rw (l, rest) (pieces_next old.rest less);
      number = n;
    }

pub is_last : (c : Cursor) → length c.rest ≤ line_len c.rest → IsLast c
is_last c most = record { whole = take_all (line_len c.rest) c.rest most; left = pieces_last c.rest most }

-- the cursor behind the next piece and its LF
abbrev pub behind_piece : Cursor → Cursor
behind_piece c = record { rest = drop (line_len c.rest + 1) c.rest; number = c.number + 1 }

-- the next piece is a line, or the last one
pub split : (c : Cursor) → IsNext c (piece c.rest) (behind_piece c) ⊎ IsLast c
split c = by (cases_lt (line_len c.rest) (length c.rest))
  where
    by : (line_len c.rest < length c.rest) ⊎ (length c.rest ≤ line_len c.rest) → IsNext c (piece c.rest) (behind_piece c) ⊎ IsLast c
    by (inl less) = inl (is_next c (behind_piece c) (piece c.rest) refl refl refl less)
    by (inr most) = inr (is_last c most)
