-- The tokens of a text stand in it as they should.
use Rattle.std.proofs.Common.{◌≡◌, ℕ, zero, suc, ◌+◌, ◌-◌, ◌<◌, ◌≤◌, inl, inr, Bool, true, false, cond, nat_lt, List, [], ◌∷◌, length, take, drop, slice_index, Result, Ok, Err, refl, sym, ap, subst, ◌∙◌, arith}
use Rattle.std.proofs.lemmas.List.{length-drop, drop-drop, get_or-drop}
use Rattle.cov_syntax.specs.declared.fault.FaultKind.TheVariants.{BadByte, FileTooLong}
use Rattle.cov_syntax.specs.declared.fault.ModelFault.{ModelFault}
use Rattle.cov_syntax.specs.declared.token.Token.{Token}
use Rattle.cov_syntax.specs.declared.token.TokenKind.{TokenKind}
use Rattle.cov_syntax.specs.Tokens as f
use Rattle.cov_syntax.specs.Tokens.{Text, is_blank, begins_comment, line_len, Front, front, with_token, with_front, tokens_from, longest_text, fault_at, or_bad_byte, tokens}
use Rattle.cov_syntax.specs.Cuts as cuts
use Rattle.cov_syntax.specs.Cuts.{IsSpelling, IsTokenIn, IsLongest, IsGap, IsNext, IsCut, IsBadByte}
use Rattle.cov_syntax.proofs.FrontLemmas.{IsTokenFront, IsBlankFront, IsFront, front_is}

-- the number and the place of a fault
abbrev fault_parts : Result (List Token) ModelFault → ℕ × ℕ
fault_parts (Ok ts) = (0, 0)
fault_parts (Err fault) = (fault.code, fault.place.start)

module _ (text : Text) where
  -- a token at the front of what stands at a place
  token_in : (kind : TokenKind) (at n : ℕ) → IsTokenFront (drop at text) kind n → IsTokenIn text kind at (at + n)
  token_in kind at n t =
      let len : at + n - at ≡ n = omega arith in
      record {
        some = omega (arith, t.some);
        within = omega (arith, t.some, t.within, length-drop at text);
        spelled = subst (λ m. IsSpelling kind (slice_index text (at + n)) (take m (drop at text))) (sym len)
            (subst (λ b. IsSpelling kind b (take n (drop at text))) (get_or-drop at text n 0) t.spelled);
      }

  -- and the other way
  token_front : (kind : TokenKind) (at to : ℕ) → IsTokenIn text kind at to → IsTokenFront (drop at text) kind (to - at)
  token_front kind at to t =
      let end : at + (to - at) ≡ to = omega (arith, t.some) in
      record {
        some = omega (arith, t.some);
        within = omega (arith, t.some, t.within, length-drop at text);
        spelled = subst (λ b. IsSpelling kind b (take (to - at) (drop at text))) (ap (slice_index text) (sym end) ∙ sym (get_or-drop at text (to - at) 0)) t.spelled;
      }

  first_byte : (at : ℕ) → slice_index (drop at text) 0 ≡ slice_index text at
  first_byte at = let e : at + 0 ≡ at = omega arith in get_or-drop at text 0 0 ∙ ap (slice_index text) e

  -- a blank or a comment before a gap
  gap_before : (at n to : ℕ) → IsBlankFront (drop at text) n → IsGap text (at + n) to → IsGap text at to
  gap_before at n to (some, within, inl b) gap =
      cuts.blank at to (omega (arith, length-drop at text, some, within)) (sym (ap is_blank (first_byte at)) ∙ b.0) (subst (λ m. IsGap text (at + m) to) b.1 gap)
  gap_before at n to (some, within, inr c) gap = cuts.comment at to c.0 (subst (λ m. IsGap text (at + m) to) c.1 gap)

  -- the same before tokens
  cut_before : (at n to : ℕ) (ts : List Token) → IsBlankFront (drop at text) n → IsCut text (at + n) ts to → IsCut text at ts to
  cut_before at n to [] blank cut = (omega (arith, cut.0), gap_before at n to blank cut.1)
  cut_before at n to (t ∷ ts) blank cut = (
    record {
      later = omega (arith, cut.0.later);
      gap = gap_before at n t.span.start blank cut.0.gap;
      token = cut.0.token;
      longest = cut.0.longest;
    },
    cut.1,
  )

  -- what a text gives from a place on stands there
  abbrev Stands : ℕ → Result (List Token) ℕ → Type 0
  Stands from (Ok ts) = IsCut text from ts (length text)
  Stands from (Err at) = (ts : List Token) × IsCut text from ts at × IsBadByte text at

  blank_stands : (at n : ℕ) (r : Result (List Token) ℕ) → IsBlankFront (drop at text) n → Stands (at + n) r → Stands at r
  blank_stands at n (Ok ts) blank s = cut_before at n (length text) ts blank s
  blank_stands at n (Err e) blank s = (s.0, cut_before at n e s.0 blank s.1, s.2)

  abbrev token_at : TokenKind → ℕ → ℕ → Token
  token_at kind at n = record { kind = kind; span = record { start = at; stop = at + n } }

  longest_in : (at n : ℕ) → ((other : TokenKind) (m : ℕ) → n < m → ¬ IsTokenFront (drop at text) other m) → IsLongest text at (at + n)
  longest_in at n longest other end lt t = longest other (end - at) (omega (arith, lt)) (token_front other at end t)

  next_here : (kind : TokenKind) (at n : ℕ) → IsFront (drop at text) (f.token kind n) → IsNext text at (token_at kind at n)
  next_here kind at n front = record {
    later = omega arith;
    gap = cuts.none at;
    token = token_in kind at n front.0;
    longest = longest_in at n front.1;
  }

  token_stands : (kind : TokenKind) (at n : ℕ) (r : Result (List Token) ℕ) → IsFront (drop at text) (f.token kind n) → Stands (at + n) r → Stands at (with_token (token_at kind at n) r)
  token_stands kind at n (Ok ts) front s = (next_here kind at n front, s)
  token_stands kind at n (Err e) front s = (token_at kind at n ∷ s.0, (next_here kind at n front, s.1), s.2)

  nothing_stands : (at : ℕ) → at < length text → IsFront (drop at text) f.nothing → Stands at (Err at)
  nothing_stands at within front = (
    [],
    (omega arith, cuts.none at),
    record {
      within = within;
      no_blank = sym (ap is_blank (first_byte at)) ∙ front.0;
      no_comment = front.1;
      no_token = λ other to lt t. front.2 other (to - at) (token_front other at to t);
    },
  )

  -- by what stands at the front
  front_stands : (at : ℕ) (found : Front) (after : ℕ → Result (List Token) ℕ) → at < length text → IsFront (drop at text) found
      → ((n : ℕ) → 0 < n → n ≤ length (drop at text) → Stands (at + n) (after n)) → Stands at (with_front at found after)
  front_stands at (f.blank n) after within front later = blank_stands at n (after n) front (later n front.0 front.1)
  front_stands at (f.token kind n) after within front later = token_stands kind at n (after n) front (later n front.0.some front.0.within)
  front_stands at f.nothing after within front later = nothing_stands at within front

  tail_is : (b at : ℕ) (z : Text) → (b ∷ z) ≡ drop at text → z ≡ drop (at + 1) text
  tail_is b at z e = ap (drop 1) e ∙ drop-drop 1 at text

  all_stand : (passed at : ℕ) (z : Text) → z ≡ drop at text → at + length z ≡ length text → passed ≤ length z → Stands (at + passed) (tokens_from passed at z)
  unfolding tokens_from
  all_stand passed at [] is len le = let e : at + passed ≡ length text = omega arith in (omega arith, subst (λ m. IsGap text (at + passed) m) e (cuts.none (at + passed)))
  all_stand (suc passed) at (b ∷ z) is len le =
      let e : at + 1 + passed ≡ at + suc passed = omega arith in
      subst (λ m. Stands m (tokens_from passed (at + 1) z)) e (all_stand passed (at + 1) z (tail_is b at z is) (omega arith) (omega arith))
  all_stand zero at (b ∷ z) is len le =
      let e : at ≡ at + 0 = omega arith in
      subst (λ m. Stands m (with_front at (front (b ∷ z)) (λ n. tokens_from (n - 1) (at + 1) z))) e
      (front_stands at (front (b ∷ z)) (λ n. tokens_from (n - 1) (at + 1) z) (omega arith) (subst (λ y. IsFront y (front (b ∷ z))) is (front_is (b ∷ z) (omega arith)))
      (λ n some fits.
      let g : at + 1 + (n - 1) ≡ at + n = omega arith in
      let n_fits : n ≤ length (b ∷ z) = omega (arith, ap length is, fits) in
      subst (λ m. Stands m (tokens_from (n - 1) (at + 1) z)) g (all_stand (n - 1) (at + 1) z (tail_is b at z is) (omega arith) (omega arith))))

  -- a whole text
  text_stands : Stands 0 (tokens_from 0 0 text)
  text_stands = all_stand 0 0 text refl (omega arith) (omega arith)

  -- by what the text gives
  cut_by : (r : Result (List Token) ℕ) (ts : List Token) → Stands 0 r → or_bad_byte r ≡ Ok ts → IsCut text 0 ts (length text)
  cut_by (Ok us) ts s e = let same : us ≡ ts = cc in subst (λ ws. IsCut text 0 ws (length text)) same s
  cut_by (Err at) ts s e = absurd cc

  bad_byte_by : (r : Result (List Token) ℕ) (at : ℕ) → Stands 0 r → or_bad_byte r ≡ Err (fault_at BadByte at (at + 1)) → (ts : List Token) × IsCut text 0 ts at × IsBadByte text at
  bad_byte_by (Ok us) at s e = absurd cc
  bad_byte_by (Err b) at s e = let same : b ≡ at = ap (λ (p : ℕ × ℕ). p.1) (ap fault_parts e) in subst (λ m. (ts : List Token) × IsCut text 0 ts m × IsBadByte text m) same s

  -- the tokens of a text stand in it
  pub IsCut-tokens : (ts : List Token) → tokens text ≡ Ok ts → IsCut text 0 ts (length text)
  unfolding tokens
  IsCut-tokens ts e = by_length (nat_lt longest_text (length text)) e
    where
      by_length : (long : Bool) → cond long (Err (fault_at FileTooLong 0 0)) (or_bad_byte (tokens_from 0 0 text)) ≡ Ok ts → IsCut text 0 ts (length text)
      by_length true h = absurd cc
      by_length false h = cut_by (tokens_from 0 0 text) ts text_stands h

  -- a bad byte stands behind tokens and begins none
  pub IsBadByte-tokens : (at : ℕ) → tokens text ≡ Err (fault_at BadByte at (at + 1)) → (ts : List Token) × IsCut text 0 ts at × IsBadByte text at
  unfolding tokens
  IsBadByte-tokens at e = by_length (nat_lt longest_text (length text)) e
    where
      by_length : (long : Bool) → cond long (Err (fault_at FileTooLong 0 0)) (or_bad_byte (tokens_from 0 0 text)) ≡ Err (fault_at BadByte at (at + 1)) → (ts : List Token) × IsCut text 0 ts at × IsBadByte text at
      by_length true h = absurd (let code : 24 ≡ 1 = ap (λ (p : ℕ × ℕ). p.0) (ap fault_parts h) in omega arith)
      by_length false h = bad_byte_by (tokens_from 0 0 text) at text_stands h
