-- The parts of a plan.
use Rattle.std.proofs.Common.{◌≡◌, ◌<◌, ◌≤◌, ◌+◌, ◌-◌, ◌*◌, ◌/◌, ◌%◌, ◌^◌, ℕ, zero, suc, List, [], ◌∷◌, ◌++◌, length, get_or, take, drop, Some, None, refl, sym, ap, subst, ◌∙◌, arith}
use Rattle.std.proofs.lemmas.List.{map-append}
use Rattle.cov_bits.specs.declared.part.Part.{Part}
use Rattle.cov_bits.specs.Layout.{IsSize, AreSizes, width, bits, first, IsDecoded}
use Rattle.std.specs.Prelude.{slice_get}
use Rattle.std.proofs.lemmas.Option.{get_or_from_slice_get, slice_get_within}
use Rattle.std.proofs.lemmas.Nat.{shl_whole, one_shl}
use Rattle.std.proofs.Math.Nat.{pow-le-pow_right}
use Rattle.cov_bits.proofs.Encoding.{Encoding, bits-push, bits_more, bits_within, encoding_goes}
use Rattle.cov_bits.proofs.Decoding.{Decoding, bits_left, bits_dropped, decoding_goes, decoding_fails}
use Rattle.cov_bits.proofs.Formed.{size_at}
use Rattle.cov_bits.specs.Views.{sizes_of, parts_of, IsPlan}

-- a part with no values
abbrev pub no_part : Part
no_part = record { size = 0; first = 0; width = 0 }

parts_push : (from : ℕ) (ns : List ℕ) (n : ℕ) → parts_of from (ns ++ n ∷ []) ≡ parts_of from ns ++ record { size = n; first = from + bits ns; width = width n } ∷ []
parts_push from [] n = let same : from ≡ from + bits [] = omega arith in ap (λ (k : ℕ). record { size = n; first = k; width = width n } ∷ []) same
parts_push from (m ∷ ns) n =
    let same : from + width m + bits ns ≡ from + (width m + bits ns) = omega arith in
    ap (λ (l : List Part). record { size = m; first = from; width = width m } ∷ l)
    (parts_push (from + width m) ns n ∙ ap (λ (k : ℕ). parts_of (from + width m) ns ++ record { size = n; first = k; width = width n } ∷ []) same)

sized_push : (ns : List ℕ) (n : ℕ) → AreSizes ns → IsSize n → AreSizes (ns ++ n ∷ [])
sized_push [] n h g = (g, tt)
sized_push (m ∷ ns) n h g = (h.0, sized_push ns n h.1 g)

pub sizes_push : (ps : List Part) (p : Part) → sizes_of (ps ++ p ∷ []) ≡ sizes_of ps ++ p.size ∷ []
sizes_push ps p = map-append (λ (q : Part). q.size) ps (p ∷ [])

pub empty_plan : IsPlan [] 0
empty_plan = record { sized = tt; laid = refl; total_of = refl; few = omega arith }

pub plan_push : (ps : List Part) (total n : ℕ) → IsPlan ps total → IsSize n → bits (sizes_of ps) + width n ≤ 60
    → IsPlan (ps ++ record { size = n; first = total; width = width n } ∷ []) (total + width n)
plan_push ps total n h g w =
    let part : Part = record { size = n; first = total; width = width n } in
    let ns = sizes_of ps in
    let grown : sizes_of (ps ++ part ∷ []) ≡ ns ++ n ∷ [] = sizes_push ps part in
    let more : bits (ns ++ n ∷ []) ≡ bits ns + width n = bits-push ns n in
    record {
      sized = rw grown (sized_push ns n h.sized g);
      laid = rw grown (ap (λ (l : List Part). l ++ part ∷ []) h.laid
          ∙ ap (λ (k : ℕ). parts_of 0 ns ++ record { size = n; first = k; width = width n } ∷ []) (h.total_of ∙ omega arith)
          ∙ sym (parts_push 0 ns n));
      total_of = rw (grown, more) (ap (λ (k : ℕ). k + width n) h.total_of);
      few = rw (grown, more) w;
    }

-- what stands at a place
pub record PartAt (ns : List ℕ) (i from : ℕ) (p : Part) : Type 0 where
  pub size : p.size ≡ get_or ns i 0
  pub first : p.first ≡ from + first ns i
  pub width : p.width ≡ width (get_or ns i 0)

at : (from : ℕ) (ns : List ℕ) (i : ℕ) → i < length ns → PartAt ns i from (get_or (parts_of from ns) i no_part)
at from [] i h = absurd (omega arith)
at from (n ∷ ns) zero h = record { size = refl; first = omega arith; width = refl }
at from (n ∷ ns) (suc i) h =
    let p = at (from + width n) ns i (omega arith) in
    let same : from + width n + first ns i ≡ from + (width n + first ns i) = omega arith in
    record { size = p.size; first = p.first ∙ same; width = p.width }

pub sizes_length : (ps : List Part) → length (sizes_of ps) ≡ length ps
sizes_length [] = refl
sizes_length (p ∷ ps) = ap (λ (k : ℕ). suc k) (sizes_length ps)

pub part_at : (ps : List Part) (total i : ℕ) → IsPlan ps total → i < length ps → PartAt (sizes_of ps) i 0 (get_or ps i no_part)
part_at ps total i h g =
    subst (λ (l : List Part). PartAt (sizes_of ps) i 0 (get_or l i no_part)) (sym h.laid) (at 0 (sizes_of ps) i (omega (arith, sizes_length ps)))

-- ---- a variable of a code that is made

-- the next place can be put to the code
pub record Puts (ps : List Part) (s : List ℕ) (i acc : ℕ) : Type 0 where
  pub there : i < length s
  pub few : (get_or ps i no_part).width < 64
  pub room : acc * 2 ^ (get_or ps i no_part).width % 2 ^ 64 + get_or s i 0 < 2 ^ 64
  pub next : Encoding (sizes_of ps) s (i + 1) (acc * 2 ^ (get_or ps i no_part).width % 2 ^ 64 + get_or s i 0)

pub puts : (ps qs : List Part) (total : ℕ) (s : List ℕ) (i acc : ℕ) → ps ≡ qs → IsPlan qs total → i < length ps → Encoding (sizes_of ps) s i acc → Puts ps s i acc
puts ps qs total s i acc same_parts plan_of h e =
    let plan : IsPlan ps total = subst (λ (l : List Part). IsPlan l total) (sym same_parts) plan_of in
    let ns = sizes_of ps in
    let w = width (get_or ns i 0) in
    let within : i < length ns = omega (arith, sizes_length ps) in
    let e' = encoding_goes ns s i acc within e in
    let same : (get_or ps i no_part).width ≡ w = (part_at ps total i plan h).width in
    let few : bits (take i ns) + w ≤ 60 = omega (arith, bits_more ns i within, bits_within ns (i + 1), plan.few) in
    let whole : acc * 2 ^ w % 2 ^ 64 ≡ acc * 2 ^ w = shl_whole acc (bits (take i ns)) w 64 e.below (omega arith) in
    let top : 2 ^ bits (take (i + 1) ns) ≤ 2 ^ 64 = pow-le-pow_right {n = 2} (omega arith) {i = bits (take (i + 1) ns)} {j = 64} (omega (arith, bits_more ns i within)) in
    record {
      there = omega (arith, sizes_length ps, e.long);
      few = rw same (omega arith);
      room = rw (same, whole) (omega (arith, e'.next.below, top));
      next = rw (same, whole) e'.next;
    }

-- ---- a variable of a code that is read

-- the next place can be read from what is left of the code
pub record Takes (ps : List Part) (c i rest below : ℕ) (places : List ℕ) : Type 0 where
  pub room : (get_or ps i no_part).width ≤ below
  pub few : below - (get_or ps i no_part).width < 64
  pub power : 1 * 2 ^ (below - (get_or ps i no_part).width) % 2 ^ 64 ≡ 2 ^ (below - (get_or ps i no_part).width)
  pub small : (get_or ps i no_part).size ≤ 1024
  pub fails : (get_or ps i no_part).size ≤ rest / 2 ^ (below - (get_or ps i no_part).width) → IsDecoded (sizes_of ps) c None
  pub goes : rest / 2 ^ (below - (get_or ps i no_part).width) < (get_or ps i no_part).size
      → Decoding (sizes_of ps) c (i + 1) (rest % 2 ^ (below - (get_or ps i no_part).width)) (below - (get_or ps i no_part).width) (places ++ rest / 2 ^ (below - (get_or ps i no_part).width) ∷ [])

pub takes : (ps qs : List Part) (total c i rest below : ℕ) (places : List ℕ) → ps ≡ qs → IsPlan qs total → i < length ps → Decoding (sizes_of ps) c i rest below places
    → Takes ps c i rest below places
takes ps qs total c i rest below places same_parts plan_of h d =
    let plan : IsPlan ps total = subst (λ (l : List Part). IsPlan l total) (sym same_parts) plan_of in
    let ns = sizes_of ps in
    let part = get_or ps i no_part in
    let b = below - part.width in
    let within : i < length ns = omega (arith, sizes_length ps) in
    let at_place = part_at ps total i plan h in
    let left : bits (drop i ns) ≡ width (get_or ns i 0) + bits (drop (i + 1) ns) = bits_left ns i within in
    let room : part.width ≤ below = omega (arith, at_place.width, left, d.left) in
    let is : b ≡ bits (drop (i + 1) ns) = omega (arith, at_place.width, left, d.left) in
    let few : b < 64 = omega (arith, at_place.width, left, d.left, bits_dropped ns i, plan.few) in
    record {
      room = room;
      few = few;
      power = one_shl b 64 few;
      small = omega (arith, at_place.size, (size_at ns i plan.sized within).1);
      fails = λ g. decoding_fails ns c i rest below places within d b (rest / 2 ^ b) is refl (omega (arith, at_place.size));
      goes = λ g. decoding_goes ns c i rest below places within d b (rest / 2 ^ b) is refl (omega (arith, at_place.size));
    }

-- ---- what is read at a place

pub part_read : (ps : List Part) (ns : List ℕ) (total i : ℕ) (p : Part) → IsPlan ps total → sizes_of ps ≡ ns → i < length ns → slice_get ps i ≡ Some p → PartAt ns i 0 p
part_read ps ns total i p plan e h g =
    let at_place : PartAt (sizes_of ps) i 0 (get_or ps i no_part) = part_at ps total i plan (slice_get_within ps i p g) in
    subst (λ (q : Part). PartAt ns i 0 q) (get_or_from_slice_get ps i p no_part g)
    (subst (λ (l : List ℕ). PartAt l i 0 (get_or ps i no_part)) e at_place)
