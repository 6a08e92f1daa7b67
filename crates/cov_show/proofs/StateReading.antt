-- What a text tells: its parts, one by one.
use Rattle.std.proofs.Common.{◌≡◌, ◌≢◌, ℕ, zero, suc, ◌+◌, ◌-◌, ◌<◌, ◌≤◌, Bool, true, false, cond, not, ◌&&◌, ◌==◌, if◌then◌else◌, IsTrue, List, [], ◌∷◌, ◌++◌, length, map, take, drop, get_or, codes, Option, Some, None, Result, Ok, Err, refl, sym, ap, subst, ◌∙◌, append_assoc, arith}
use Rattle.std.specs.Prelude.{nat_lt, MatchOption, IfSome}
use denote.Ref.{Bor}
use Rattle.std.specs.List.{prefix_len, position}
use Rattle.std.specs.Cmp.Lexicographic.{pointwise}
use Rattle.std.specs.Str.{bytes_eq}
use Rattle.std.proofs.lemmas.Bool.{eqb-true, ltb-true, ltb-false, and_parts}
use Rattle.std.proofs.lemmas.Bool.Decides.{nat_tests, Decides-eqb}
use Rattle.std.proofs.lemmas.List.{take_at, drop_at, drop_more, length-drop, take-append-drop, drop-drop, length-append, get_or-map}
use Rattle.std.proofs.lemmas.List.Folds.{length-prefix_len}
use Rattle.std.proofs.lemmas.List.Sums.{prefix_len_passes, prefix_len_is}
use Rattle.std.proofs.lemmas.List.Quantifiers.{position-Some}
use Rattle.std.proofs.lemmas.Slice.Eq.{bytes_eq-Decides, strip_prefix_is}
use Rattle.cov_syntax.specs.declared.tree.Value.{Value}
use Rattle.cov_syntax.specs.declared.tree.Value.TheVariants as value
use Rattle.cov_syntax.specs.Tokens.{Text}
use Rattle.cov_model.specs.declared.model.Var.{Var}
use Rattle.cov_model.specs.Values.{item}
use Rattle.cov_show.specs.declared.state_fault.StateFault.{StateFault}
use Rattle.cov_show.specs.declared.state_fault.StateFaultKind.TheVariants as kind
use Rattle.cov_show.specs.declared.state_reading.Part.{Part}
use Rattle.cov_show.specs.Cubes.{Shown, value_text, shown}
use Rattle.cov_show.specs.States.{state_part, state_parts, state_text, fault_at, behind, head, word, place_of, told_value, told_behind, told_part, with_place, with_part, told_parts, told_all, told, is_small_value, are_small}
use Rattle.cov_show.proofs.CubeLemmas.{marked, marked-joined}
use Rattle.cov_show.proofs.ValueTexts.{lacks}

-- ---- what stands behind a front

same_byte : (b c : ℕ) → b ≡ c → (b == c) ≡ true
same_byte b c e = (Decides-eqb b c).1 e

pub behind-front : (p z : Text) → behind p (p ++ z) ≡ Some z
behind-front [] z = refl
behind-front (b ∷ p) z = ap (λ (t : Bool). if t then behind p (p ++ z) else None) (same_byte b b refl) ∙ behind-front p z

pub behind_is : (p z r : Text) → behind p z ≡ Some r → z ≡ p ++ r
behind_is [] z r e = cc
behind_is (b ∷ p) [] r e = cc
behind_is (b ∷ p) (c ∷ z) r e = by (b == c) refl e (behind_is p z r)
  where
    by : (t : Bool) → (b == c) ≡ t → (if t then behind p z else None) ≡ Some r → (behind p z ≡ Some r → z ≡ p ++ r) → c ∷ z ≡ b ∷ (p ++ r)
    by true f g h = let same : b ≡ c = eqb-true b c f in let rest = h g in cc
    by false f g h = cc

-- a text begins with these bytes, or with others
pub behind_other : (p z : Text) → ((r : Text) → z ≢ p ++ r) → behind p z ≡ None
behind_other p z h = by (behind p z) refl
  where
    by : (o : Option Text) → behind p z ≡ o → o ≡ None
    by None e = refl
    by (Some r) e = absurd (h r (behind_is p z r e))

pub behind_len : (p z r : Text) → behind p z ≡ Some r → length p + length r ≡ length z
behind_len p z r e = sym (ap length (behind_is p z r e) ∙ length-append p r)

pub behind_none : (p q z : Text) → behind p z ≡ None → behind (p ++ q) z ≡ None
behind_none [] q z e = cc
behind_none (b ∷ p) q [] e = refl
behind_none (b ∷ p) q (c ∷ z) e = by (b == c) e (behind_none p q z)
  where
    by : (t : Bool) → (if t then behind p z else None) ≡ None → (behind p z ≡ None → behind (p ++ q) z ≡ None)
        → (if t then behind (p ++ q) z else None) ≡ None
    by true f g = g f
    by false f g = refl

pub behind_some : (p q z r : Text) → behind p z ≡ Some r → behind (p ++ q) z ≡ behind q r
behind_some [] q z r e = let same : z ≡ r = cc in ap (behind q) same
behind_some (b ∷ p) q [] r e = cc
behind_some (b ∷ p) q (c ∷ z) r e = by (b == c) e (behind_some p q z r)
  where
    by : (t : Bool) → (if t then behind p z else None) ≡ Some r → (behind p z ≡ Some r → behind (p ++ q) z ≡ behind q r)
        → (if t then behind (p ++ q) z else None) ≡ behind q r
    by true f g = g f
    by false f g = cc

-- the head piece by piece
pub no_mark : (mark name z : Text) → behind mark z ≡ None → behind (head mark name) z ≡ None
no_mark mark name z e = behind_none (mark ++ name) (codes "=") z (behind_none mark name z e)

pub no_name : (mark name z r : Text) → behind mark z ≡ Some r → behind name r ≡ None → behind (head mark name) z ≡ None
no_name mark name z r e f = behind_none (mark ++ name) (codes "=") z (behind_some mark name z r e ∙ f)

pub named : (mark name z r q : Text) → behind mark z ≡ Some r → behind name r ≡ Some q → behind (head mark name) z ≡ behind (codes "=") q
named mark name z r q e f = behind_some (mark ++ name) (codes "=") z q (behind_some mark name z r e ∙ f)

pub head_found : (mark name z r q : Text) (o : Option (Bor Text)) → behind mark z ≡ Some r → behind name r ≡ Some q
    → MatchOption o (behind (codes "=") q ≡ None) (λ x. behind (codes "=") q ≡ Some x.now)
    → MatchOption o (behind (head mark name) z ≡ None) (λ x. behind (head mark name) z ≡ Some x.now)
head_found mark name z r q None e f h = named mark name z r q e f ∙ h
head_found mark name z r q (Some x) e f h = named mark name z r q e f ∙ h

pub head_len : (mark name z r q : Text) (o : Option (Bor Text)) → length mark + length r ≡ length z → length name + length q ≡ length r
    → IfSome o (λ x. 1 + length x.now ≡ length q) → IfSome o (λ x. length (head mark name) + length x.now ≡ length z)
head_len mark name z r q None e f h = tt
head_len mark name z r q (Some x) e f h = omega (arith, e, f, h, length-append (mark ++ name) (codes "="), length-append mark name)

-- what `strip_prefix` says of a text
pub stripped : (p z : Text) (o : Option (Bor Text)) → MatchOption o (pointwise (λ a b. a == b) (take (length p) z) p ≡ false)
    (λ x. (pointwise (λ a b. a == b) (take (length p) z) p ≡ true) × (x.now ≡ drop (length p) z) × (length x.now + length p ≡ length z))
    → MatchOption o (behind p z ≡ None) (λ x. behind p z ≡ Some x.now)
stripped p z o h = by o (strip_prefix_is Decides-eqb z p o h)
  where
    by : (o : Option (Bor Text)) → MatchOption o ((r : Text) → z ≢ p ++ r) (λ x. z ≡ p ++ x.now) → MatchOption o (behind p z ≡ None) (λ x. behind p z ≡ Some x.now)
    by None h = behind_other p z h
    by (Some x) h = ap (behind p) h ∙ behind-front p x.now

pub behind_some_len : (p z : Text) (o : Option (Bor Text)) → MatchOption o (behind p z ≡ None) (λ x. behind p z ≡ Some x.now)
    → IfSome o (λ x. length p + length x.now ≡ length z)
behind_some_len p z None h = tt
behind_some_len p z (Some x) h = behind_len p z x.now h

-- ---- words

-- nothing follows, or a comma
abbrev pub IsCut : Text → Type 0
IsCut [] = Unit {0}
IsCut (b ∷ z) = b ≡ 44

plain_len : (w z : Text) → IsTrue (lacks 44 w) → IsCut z → prefix_len (λ b. not (b == 44)) (w ++ z) ≡ length w
plain_len [] [] h c = refl
plain_len [] (b ∷ z) h c = let same : (b == 44) ≡ true = (Decides-eqb b 44).1 c in rw same refl
plain_len (b ∷ w) z h c =
    let p = and_parts (not (b == 44)) (lacks 44 w) h in
    let rest = plain_len w z p.1 c in
    rw p.0 (omega (arith, rest))

pub word-plain : (w z : Text) → IsTrue (lacks 44 w) → IsCut z → word (w ++ z) ≡ w
word-plain w z h c = ap (λ n. take n (w ++ z)) (plain_len w z h c) ∙ take_at w z (length w) refl

pub word-front : (z : Text) → take (length (word z)) z ≡ word z
word-front z = ap (λ n. take n z) (length-prefix_len (λ b. not (b == 44)) z)

-- a text is its first word and what follows
word_split : (z : Text) → z ≡ word z ++ drop (length (word z)) z
word_split z =
    let len : length (word z) ≡ prefix_len (λ b. not (b == 44)) z = length-prefix_len (λ b. not (b == 44)) z in
    sym (take-append-drop (prefix_len (λ b. not (b == 44)) z) z) ∙ ap (λ n. word z ++ drop n z) (sym len)

-- ---- values

same_bytes : (xs ys : Text) → xs ≡ ys → bytes_eq xs ys ≡ true
same_bytes xs ys e = (bytes_eq-Decides xs ys).1 e

-- no value has a comma
abbrev pub ArePlain : List Text → Type 0
ArePlain values = (i : ℕ) → i < length values → IsTrue (lacks 44 (get_or values i []))

found : {A : Type 0} (p : A → Bool) (xs : List A) (i : ℕ) (d : A) → i < length xs → p (get_or xs i d) ≡ true → position p xs ≡ None → ⊥
found p xs i d h e none = by (nat_lt (prefix_len (λ x. not (p x)) xs) (length xs)) refl none
  where
    by : (t : Bool) → nat_lt (prefix_len (λ x. not (p x)) xs) (length xs) ≡ t → cond t (Some (prefix_len (λ x. not (p x)) xs)) None ≡ None → ⊥
    by true f g = cc
    by false f g =
        let most : length xs ≤ prefix_len (λ x. not (p x)) xs = ltb-false (prefix_len (λ x. not (p x)) xs) (length xs) f in
        let passes : not (p (get_or xs i d)) ≡ true = prefix_len_passes (λ x. not (p x)) xs i d (omega arith) in
        let no : not true ≡ true = ap (λ t. not t) (sym e) ∙ passes in
        cc

-- a value has the text of the one at this place
pub record IsAlike (values : List Text) (i j : ℕ) : Type 0 where
  pub below : j < length values
  pub text : get_or values j [] ≡ get_or values i []

-- the first value with the text of another
pub record FindsAlike (values : List Text) (i : ℕ) : Type 0 where
  pub place : ℕ
  pub found : place_of values (get_or values i []) ≡ Some place
  pub alike : IsAlike values i place

place_of-value : (values : List Text) (i : ℕ) → i < length values → FindsAlike values i
place_of-value values i h = by (place_of values (get_or values i [])) refl
  where
    by : (o : Option ℕ) → place_of values (get_or values i []) ≡ o → FindsAlike values i
    by None e = absurd (found (bytes_eq (get_or values i [])) values i [] h (same_bytes (get_or values i []) (get_or values i []) refl) e)
    by (Some k) e =
        let p = position-Some (bytes_eq (get_or values i [])) values k [] e in
        let text : get_or values k [] ≡ get_or values i [] = sym ((bytes_eq-Decides (get_or values i []) (get_or values k [])).0 p.1) in
        record { place = k; found = e; alike = record { below = p.0; text = text } }

-- ---- parts

-- the head of a part, and its value before what follows
part_split : (mark name v rest : Text) → (mark ++ (name ++ codes "=" ++ v)) ++ rest ≡ head mark name ++ (v ++ rest)
part_split mark name v rest = simp append_assoc

part_len : (mark name v : Text) → length (head mark name) + length v ≡ length (mark ++ (name ++ codes "=" ++ v))
part_len mark name v = sym (ap length (part_whole mark name v) ∙ length-append (head mark name) v)
  where
    part_whole : (mark name v : Text) → mark ++ (name ++ codes "=" ++ v) ≡ head mark name ++ v
    part_whole mark name v = simp append_assoc

-- the part of a variable is read
told_part-read : (x : Shown) (mark : Text) (at i : ℕ) (rest : Text) (f : FindsAlike x.values i) → IsTrue (lacks 44 (get_or x.values i [])) → IsCut rest
    → told_part x mark at ((mark ++ state_part x i) ++ rest) ≡ Ok (record { place = f.place; len = length (mark ++ state_part x i) })
unfolding told_part
told_part-read x mark at i rest f plain c =
    let v : Text = get_or x.values i [] in
    let n : ℕ = length (head mark x.name) in
    let there : behind (head mark x.name) ((mark ++ state_part x i) ++ rest) ≡ Some (v ++ rest) =
    ap (λ (z : Text). behind (head mark x.name) z) (part_split mark x.name v rest) ∙ behind-front (head mark x.name) (v ++ rest) in
    let is : word (v ++ rest) ≡ v = word-plain v rest plain c in
    ap (λ o. told_behind x.values at n o) there
    ∙ ap (λ (w : Text). told_value (at + n) (n + length w) (place_of x.values w)) is
    ∙ ap (λ o. told_value (at + n) (n + length v) o) f.found
    ∙ ap (λ m. Ok (record { place = f.place; len = m })) (part_len mark x.name v)

-- a part that is told stands there
pub record IsPart (x : Shown) (mark z : Text) (p : Part) : Type 0 where
  pub place : p.place < length x.values
  pub text : z ≡ (mark ++ state_part x p.place) ++ drop p.len z

pub part_told : (x : Shown) (mark : Text) (at : ℕ) (z : Text) (p : Part) → told_part x mark at z ≡ Ok p → IsPart x mark z p
unfolding told_part
part_told x mark at z p e = by (behind (head mark x.name) z) refl e
  where
    n : ℕ
    n = length (head mark x.name)

    valued : (rest : Text) (o : Option ℕ) → z ≡ head mark x.name ++ rest → place_of x.values (word rest) ≡ o
        → told_value (at + length (head mark x.name)) (length (head mark x.name) + length (word rest)) o ≡ Ok p → IsPart x mark z p
    valued rest None f g h = cc
    valued rest (Some i) f g h =
        let q = position-Some (bytes_eq (word rest)) x.values i [] g in
        let text : get_or x.values i [] ≡ word rest = sym ((bytes_eq-Decides (word rest) (get_or x.values i [])).0 q.1) in
        let part : record { place = i; len = length (head mark x.name) + length (word rest) } ≡ p = cc in
        let left : drop (length (head mark x.name) + length (word rest)) z ≡ drop (length (word rest)) rest =
        sym (drop-drop (length (word rest)) (length (head mark x.name)) z)
        ∙ ap (λ (y : Text). drop (length (word rest)) (drop (length (head mark x.name)) y)) f
        ∙ ap (λ (y : Text). drop (length (word rest)) y) (drop_at (head mark x.name) rest (length (head mark x.name)) refl) in
        let whole : z ≡ (mark ++ state_part x i) ++ drop (length (head mark x.name) + length (word rest)) z =
        f ∙ ap (λ (y : Text). head mark x.name ++ y) (word_split rest)
        ∙ ap (λ (y : Text). head mark x.name ++ (y ++ drop (length (word rest)) rest)) (sym text)
        ∙ sym (part_split mark x.name (get_or x.values i []) (drop (length (word rest)) rest))
        ∙ ap (λ (y : Text). (mark ++ state_part x i) ++ y) (sym left) in
        subst (λ (p : Part). IsPart x mark z p) part (record { place = q.0; text = whole })

    by : (o : Option Text) → behind (head mark x.name) z ≡ o → told_behind x.values at (length (head mark x.name)) o ≡ Ok p → IsPart x mark z p
    by None f g = cc
    by (Some rest) f g = valued rest (place_of x.values (word rest)) (behind_is (head mark x.name) z rest f) refl g

-- ---- all parts

-- one place for each variable, each below the number of its values
abbrev pub fits_shown : List Shown → List ℕ → Bool
fits_shown [] [] = true
fits_shown (x ∷ xs) (i ∷ s) = nat_lt i (length x.values) && fits_shown xs s
fits_shown _ _ = false

abbrev pub AreReadable : List Shown → Type 0
AreReadable [] = Unit {0}
AreReadable (x ∷ xs) = ArePlain x.values × AreReadable xs

-- one value for each variable, with the text of the one at this place
abbrev pub AreAlike : List Shown → List ℕ → List ℕ → Type 0
AreAlike [] [] [] = Unit {0}
AreAlike (x ∷ xs) (i ∷ s) (j ∷ t) = IsAlike x.values i j × AreAlike xs s t
AreAlike _ _ _ = ⊥

marked_cut : (ts : List Text) → IsCut (marked (codes ",") ts)
marked_cut [] = tt
marked_cut (t ∷ ts) = refl

-- a state with the same texts is told
pub record TellsAlike (xs : List Shown) (s : List ℕ) (told : Result (List ℕ) StateFault) : Type 0 where
  pub state : List ℕ
  pub is : told ≡ Ok state
  pub alike : AreAlike xs s state

told_parts-read : (xs : List Shown) (s : List ℕ) (mark : Text) (at : ℕ) → AreReadable xs → IsTrue (fits_shown xs s)
    → TellsAlike xs s (told_parts xs mark at (marked mark (state_parts xs s)))
told_parts-read [] [] mark at r h = record { state = []; is = refl; alike = tt }
told_parts-read [] (i ∷ s) mark at r h = cc
told_parts-read (x ∷ xs) [] mark at r h = cc
told_parts-read (x ∷ xs) (i ∷ s) mark at r h =
    let q = and_parts (nat_lt i (length x.values)) (fits_shown xs s) h in
    let within : i < length x.values = ltb-true i (length x.values) q.0 in
    let part : Text = mark ++ state_part x i in
    let rest : Text = marked (codes ",") (state_parts xs s) in
    let f = place_of-value x.values i within in
    let more = told_parts-read xs s (codes ",") (at + length part) r.1 q.1 in
    record {
      state = f.place ∷ more.state;
      is =
          ap (λ t. with_part t (λ p. told_parts xs (codes ",") (at + p.len) (drop p.len (part ++ rest))))
          (told_part-read x mark at i rest f (r.0 i within) (marked_cut (state_parts xs s)))
          ∙ ap (λ (z : Text). with_place f.place (told_parts xs (codes ",") (at + length part) z)) (drop_at part rest (length part) refl)
          ∙ ap (λ t. with_place f.place t) more.is;
      alike = (f.alike, more.alike);
    }

-- the state of a text
pub record IsStateText (xs : List Shown) (mark z : Text) (s : List ℕ) : Type 0 where
  pub fits : IsTrue (fits_shown xs s)
  pub text : z ≡ marked mark (state_parts xs s)

pub parts_told : (xs : List Shown) (mark : Text) (at : ℕ) (z : Text) (s : List ℕ) → told_parts xs mark at z ≡ Ok s → IsStateText xs mark z s
parts_told [] mark at [] s e = let none : [] ≡ s = cc in subst (λ (s : List ℕ). IsStateText [] mark [] s) none (record { fits = refl; text = refl })
parts_told [] mark at (b ∷ z) s e = cc
parts_told (x ∷ xs) mark at z s e = by (told_part x mark at z) refl e (parts_told xs (codes ","))
  where
    behind_part : (p : Part) (t : Result (List ℕ) StateFault) → IsPart x mark z p
        → ((u : List ℕ) → t ≡ Ok u → IsStateText xs (codes ",") (drop p.len z) u) → with_place p.place t ≡ Ok s → IsStateText (x ∷ xs) mark z s
    behind_part p (Err f) h more g = cc
    behind_part p (Ok u) h more g =
        let rest = more u refl in
        let same : p.place ∷ u ≡ s = cc in
        let low : nat_lt p.place (length x.values) ≡ true = grind (arith, nat_tests, h.place) in
        subst (λ (s : List ℕ). IsStateText (x ∷ xs) mark z s) same (record {
          fits = rw low rest.fits;
          text = h.text ∙ ap (λ (y : Text). (mark ++ state_part x p.place) ++ y) rest.text;
        })

    by : (t : Result Part StateFault) → told_part x mark at z ≡ t
        → with_part t (λ p. told_parts xs (codes ",") (at + p.len) (drop p.len z)) ≡ Ok s
        → ((at : ℕ) (z : Text) (u : List ℕ) → told_parts xs (codes ",") at z ≡ Ok u → IsStateText xs (codes ",") z u) → IsStateText (x ∷ xs) mark z s
    by (Err f) g h more = cc
    by (Ok p) g h more =
        behind_part p (told_parts xs (codes ",") (at + p.len) (drop p.len z)) (part_told x mark at z p g) (more (at + p.len) (drop p.len z)) h

-- ---- states

pub told-read : (xs : List Shown) (s : List ℕ) → AreReadable xs → IsTrue (fits_shown xs s) → TellsAlike xs s (told xs (state_text xs s))
told-read [] [] r h = record { state = []; is = refl; alike = tt }
told-read [] (i ∷ s) r h = cc
told-read (x ∷ xs) [] r h = cc
told-read (x ∷ xs) (i ∷ s) r h =
    let more = told_parts-read (x ∷ xs) (i ∷ s) [] 0 r h in
    record {
      state = more.state;
      is = ap (λ (z : Text). told_parts (x ∷ xs) [] 0 z) (sym (marked-joined (state_parts (x ∷ xs) (i ∷ s)))) ∙ more.is;
      alike = more.alike;
    }

-- a state that is told is the one of the text
pub record IsTold (xs : List Shown) (z : Text) (s : List ℕ) : Type 0 where
  pub fits : IsTrue (fits_shown xs s)
  pub text : z ≡ state_text xs s

all_told : (z : Text) (s : List ℕ) → told_all z ≡ Ok s → IsTold [] z s
all_told z s e = by (bytes_eq z (codes "all")) refl e
  where
    by : (t : Bool) → bytes_eq z (codes "all") ≡ t → (if t then Ok [] else Err (fault_at kind.Expected 0)) ≡ Ok s → IsTold [] z s
    by true f g =
        let none : [] ≡ s = cc in
        subst (λ (s : List ℕ). IsTold [] z s) none (record { fits = refl; text = (bytes_eq-Decides z (codes "all")).0 f })
    by false f g = cc

pub state_told : (xs : List Shown) (z : Text) (s : List ℕ) → told xs z ≡ Ok s → IsTold xs z s
state_told [] z s e = all_told z s e
state_told (x ∷ xs) z [] e = let p = parts_told (x ∷ xs) [] 0 z [] e in let no = p.fits in cc
state_told (x ∷ xs) z (i ∷ s) e =
    let p = parts_told (x ∷ xs) [] 0 z (i ∷ s) e in
    record { fits = p.fits; text = p.text ∙ marked-joined (state_parts (x ∷ xs) (i ∷ s)) }

-- ---- reading on

-- these places before the others
abbrev pub with_places : List ℕ → Result (List ℕ) StateFault → Result (List ℕ) StateFault
with_places s (Ok t) = Ok (s ++ t)
with_places s (Err f) = Err f

pub with_places-nil : (t : Result (List ℕ) StateFault) → with_places [] t ≡ t
with_places-nil (Ok t) = refl
with_places-nil (Err f) = refl

pub with_places-more : (s : List ℕ) (i : ℕ) (t : Result (List ℕ) StateFault) → with_places s (with_place i t) ≡ with_places (s ++ i ∷ []) t
with_places-more s i (Ok t) = ap (λ (u : List ℕ). Ok u) (sym (append_assoc s (i ∷ []) t))
with_places-more s i (Err f) = refl

-- ---- places of values

pub place_found : (values : List Text) (w : Text) (i : ℕ) → i < length values → bytes_eq w (get_or values i []) ≡ true
    → ((k : ℕ) → k < i → bytes_eq w (get_or values k []) ≡ false) → Some i ≡ place_of values w
place_found values w i within here before =
    let n : prefix_len (λ v. not (bytes_eq w v)) values ≡ i =
    prefix_len_is (λ v. not (bytes_eq w v)) values i [] (omega arith) (λ k h. ap (λ t. not t) (before k h)) (λ h. ap (λ t. not t) here) in
    let less : nat_lt i (length values) ≡ true = grind (arith, nat_tests) in
    sym (ap (λ m. cond (nat_lt m (length values)) (Some m) None) n ∙ ap (λ t. cond t (Some i) None) less)

pub place_missing : (values : List Text) (w : Text) → ((k : ℕ) → k < length values → bytes_eq w (get_or values k []) ≡ false) → None ≡ place_of values w
place_missing values w before =
    let n : prefix_len (λ v. not (bytes_eq w v)) values ≡ length values =
    prefix_len_is (λ v. not (bytes_eq w v)) values (length values) [] (omega arith) (λ k h. ap (λ t. not t) (before k h)) (λ h. absurd (omega arith)) in
    let most : nat_lt (length values) (length values) ≡ false = grind (arith, nat_tests) in
    sym (ap (λ m. cond (nat_lt m (length values)) (Some m) None) n ∙ ap (λ t. cond t (Some (length values)) None) most)

pub item-at : (xs : List Value) (i : ℕ) → item xs i ≡ get_or xs i (value.Bool false)
item-at [] i = refl
item-at (x ∷ xs) zero = refl
item-at (x ∷ xs) (suc i) = item-at xs i

pub mapped : (names : List Text) (values : List Value) (i : ℕ) → i < length values
    → get_or (map (value_text names) values) i [] ≡ value_text names (get_or values i (value.Bool false))
mapped names values i h = get_or-map (value_text names) values i (value.Bool false) [] h

-- ---- one part more

pub part_expected : (x : Shown) (mark : Text) (at : ℕ) (z : Text) → behind (head mark x.name) z ≡ None → told_part x mark at z ≡ Err (fault_at kind.Expected at)
unfolding told_part
part_expected x mark at z e = ap (told_behind x.values at (length (head mark x.name))) e

pub part_behind : (x : Shown) (mark : Text) (at n : ℕ) (z rest : Text) → behind (head mark x.name) z ≡ Some rest → n ≡ length (head mark x.name)
    → told_part x mark at z ≡ told_behind x.values at n (Some rest)
unfolding told_part
part_behind x mark at n z rest e f = ap (told_behind x.values at (length (head mark x.name))) e ∙ ap (λ m. told_behind x.values at m (Some rest)) (sym f)

pub rest_is : (n : ℕ) (z : Text) → take (length z - n) (drop n z) ≡ drop n z
rest_is n z = all (length z - n) (drop n z) (omega (arith, length-drop n z))
  where
    all : (k : ℕ) (z : Text) → length z ≤ k → take k z ≡ z
    all zero [] h = refl
    all (suc k) [] h = refl
    all zero (b ∷ z) h = absurd (omega arith)
    all (suc k) (b ∷ z) h = ap (λ (y : Text). b ∷ y) (all k z (omega arith))

pub read_on : (names : List Text) (xs : List Var) (i : ℕ) (x : Var) (s t : List ℕ) (mark : Text) (at : ℕ) (z : Text) (p : Part) (whole : Result (List ℕ) StateFault)
    → i < length xs → x ≡ get_or xs i x → told_part (shown names x) mark at (drop at z) ≡ Ok p → t ≡ s ++ p.place ∷ []
    → with_places s (told_parts (map (shown names) (drop i xs)) mark at (drop at z)) ≡ whole
    → with_places t (told_parts (map (shown names) (drop (i + 1) xs)) (codes ",") (at + p.len) (drop (at + p.len) z)) ≡ whole
read_on names xs i x s t mark at z p whole h is e f so_far =
    let vars : drop i xs ≡ x ∷ drop (i + 1) xs = drop_more xs i x h ∙ ap (λ (y : Var). y ∷ drop (i + 1) xs) (sym is) in
    let rest : List Shown = map (shown names) (drop (i + 1) xs) in
    ap (λ (u : List ℕ). with_places u (told_parts rest (codes ",") (at + p.len) (drop (at + p.len) z))) f
    ∙ ap (λ (y : Text). with_places (s ++ p.place ∷ []) (told_parts rest (codes ",") (at + p.len) y)) (sym (drop-drop p.len at z))
    ∙ sym (with_places-more s p.place (told_parts rest (codes ",") (at + p.len) (drop p.len (drop at z))))
    ∙ ap (λ r. with_places s (with_part r (λ q. told_parts rest (codes ",") (at + q.len) (drop q.len (drop at z))))) (sym e)
    ∙ ap (λ (ys : List Var). with_places s (told_parts (map (shown names) ys) mark at (drop at z))) (sym vars)
    ∙ so_far

pub no_small : (xs : List Var) → are_small xs [] ≡ true
no_small [] = refl
no_small (x ∷ xs) = refl

pub small_on : (xs : List Var) (s t : List ℕ) (i k : ℕ) (x : Var) → i < length xs → length s ≡ i → x ≡ get_or xs i x → is_small_value (item x.values k) ≡ true → t ≡ s ++ k ∷ []
    → are_small xs s ≡ true → are_small xs t ≡ true
small_on xs s t i k x h e is small f so_far = ap (are_small xs) f ∙ go xs s i h e is so_far
  where
    go : (xs : List Var) (s : List ℕ) (i : ℕ) → i < length xs → length s ≡ i → x ≡ get_or xs i x → are_small xs s ≡ true → are_small xs (s ++ k ∷ []) ≡ true
    go [] s i h e is g = absurd (omega arith)
    go (y ∷ xs) [] zero h e is g = let here : is_small_value (item y.values k) ≡ true = ap (λ (z : Var). is_small_value (item z.values k)) (sym is) ∙ small in rw here (no_small xs)
    go (y ∷ xs) [] (suc i) h e is g = absurd (omega arith)
    go (y ∷ xs) (j ∷ s) zero h e is g = absurd (omega arith)
    go (y ∷ xs) (j ∷ s) (suc i) h e is g =
        let p = and_parts (is_small_value (item y.values j)) (are_small xs s) g in
        rw (p.0, go xs s i (omega arith) (omega arith) is p.1) refl
