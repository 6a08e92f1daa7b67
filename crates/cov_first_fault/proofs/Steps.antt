-- What a parser takes up to where it stops can go on: the steps, and their composition.
use Rattle.std.proofs.Common.{◌≡◌, ◌≢◌, ℕ, ◌<◌, Bool, true, false, cond, [], ◌∷◌, ◌++◌, length, Result, Ok, Err, refl, sym, ap, subst, ◌∙◌, append_assoc}
use Rattle.cov_syntax.specs.declared.lexeme.Lexeme.{Lexeme}
use Rattle.cov_syntax.specs.declared.lexeme.Terminal.{Terminal}
use Rattle.cov_syntax.specs.declared.lexeme.Terminal.TheVariants as k
use Rattle.cov_syntax.specs.Lexemes.{Lexemes, kind, next, same, greatest_number}
use Rattle.cov_grammar.specs.Steps.{Stop, ◌>>=◌, refuse, expect}
use Rattle.cov_grammar.proofs.StepLemmas.{same_is}
use Rattle.cov_first_fault.specs.FirstFault.{AreSmall}

-- ---- relations between lexemes and a rest

-- nothing is taken
pub data Nil : Lexemes → Lexemes → Type 0 where
  nil : {xs : Lexemes} → Nil xs xs

-- one lexeme of a kind
pub data Tok (P : Terminal → Type 0) : Lexemes → Lexemes → Type 0 where
  tok : {t : Lexeme} {ys : Lexemes} → P t.kind → Tok P (t ∷ ys) ys

-- the one, and then the other
pub data Seq (G H : Lexemes → Lexemes → Type 0) : Lexemes → Lexemes → Type 0 where
  seq : {xs ys zs : Lexemes} → G xs ys → H ys zs → Seq G H xs zs

-- one of two
pub data Or (G H : Lexemes → Lexemes → Type 0) : Lexemes → Lexemes → Type 0 where
  left : {xs ys : Lexemes} → G xs ys → Or G H xs ys
  right : {xs ys : Lexemes} → H xs ys → Or G H xs ys

-- what is read as some tree
pub data Any {A : Type 0} (R : Lexemes → A → Lexemes → Type 0) : Lexemes → Lexemes → Type 0 where
  any : {xs ys : Lexemes} {a : A} → R xs a ys → Any R xs ys

-- what is read, and does not begin so
pub data Guarded (c : Terminal) (G : Lexemes → Lexemes → Type 0) : Lexemes → Lexemes → Type 0 where
  guarded : {xs ys : Lexemes} → kind xs ≢ c → G xs ys → Guarded c G xs ys

-- a lexeme of this kind
abbrev pub Is : Terminal → Terminal → Type 0
Is c d = d ≡ c

-- ---- walks

-- the lexeme with its number put to 0
abbrev pub zeroed : Lexeme → Lexeme
zeroed t = record t { value = 0 }

-- something that is read before any rest
pub record Some (G : Lexemes → Lexemes → Type 0) : Type 0 where
  pub taken : Lexemes
  pub reads : (zs : Lexemes) → G (taken ++ zs) zs

-- lexemes with which something begins that is read before any rest
pub record Viable (G : Lexemes → Lexemes → Type 0) (us : Lexemes) : Type 0 where
  pub others : Lexemes
  pub reads : (zs : Lexemes) → G (us ++ (others ++ zs)) zs

-- what stands before the rest is read before any other
pub record Taken (G : Lexemes → Lexemes → Type 0) (xs ys : Lexemes) : Type 0 where
  pub front : Lexemes
  pub split : xs ≡ front ++ ys
  pub small : AreSmall front
  pub reads : (zs : Lexemes) → G (front ++ zs) zs

-- what stands before the place can go on
pub record Stuck (G : Lexemes → Lexemes → Type 0) (xs : Lexemes) (places : ℕ) : Type 0 where
  pub front : Lexemes
  pub rest : Lexemes
  pub split : xs ≡ front ++ rest
  pub places_are : length rest ≡ places
  pub small : AreSmall front
  pub viable : Viable G front

-- what stands before the place and its number can go on, if that were small
pub record Great (G : Lexemes → Lexemes → Type 0) (xs : Lexemes) (places : ℕ) : Type 0 where
  pub front : Lexemes
  pub number : Lexeme
  pub rest : Lexemes
  pub split : xs ≡ front ++ number ∷ rest
  pub places_are : length (number ∷ rest) ≡ places
  pub small : AreSmall front
  pub kind_is : number.kind ≡ k.Number
  pub above : greatest_number < number.value
  pub viable : Viable G (front ++ zeroed number ∷ [])

abbrev pub IsWalk : {A : Type 0} → (A → Lexemes) → (Lexemes → Lexemes → Type 0) → Lexemes → Result A Stop → Type 0
IsWalk view G xs (Ok a) = Taken G xs (view a)
IsWalk view G xs (Err (Stop.unread places)) = Stuck G xs places
IsWalk view G xs (Err (Stop.too_great places)) = Great G xs places

pub record Walks {A : Type 0} (view : A → Lexemes) (G : Lexemes → Lexemes → Type 0) (xs : Lexemes) (r : Result A Stop) : Type 0 where
  pub holds : IsWalk view G xs r

-- ---- composition

small_both : (us vs : Lexemes) → AreSmall us → AreSmall vs → AreSmall (us ++ vs)
small_both [] vs a b = b
small_both (t ∷ us) vs a b = (a.0, small_both us vs a.1 b)

module _ {G H : Lexemes → Lexemes → Type 0} where
  taken_both : {xs ys zs : Lexemes} → Taken G xs ys → Taken H ys zs → Taken (Seq G H) xs zs
  taken_both {xs} {ys} {zs} a b = record {
    front = a.front ++ b.front;
    split = a.split ∙ ap (λ (l : Lexemes). a.front ++ l) b.split ∙ sym (append_assoc a.front b.front zs);
    small = small_both a.front b.front a.small b.small;
    reads = λ ws. subst (λ (l : Lexemes). Seq G H l ws) (sym (append_assoc a.front b.front ws)) (Seq.seq (a.reads (b.front ++ ws)) (b.reads ws));
  }

  viable_after : (us : Lexemes) {vs : Lexemes} → ((zs : Lexemes) → G (us ++ zs) zs) → Viable H vs → Viable (Seq G H) (us ++ vs)
  viable_after us {vs} a b = record {
    others = b.others;
    reads = λ ws. subst (λ (l : Lexemes). Seq G H l ws) (sym (append_assoc us vs (b.others ++ ws))) (Seq.seq (a (vs ++ (b.others ++ ws))) (b.reads ws));
  }

  viable_before : {us : Lexemes} → Viable G us → Some H → Viable (Seq G H) us
  viable_before {us} a b = record {
    others = a.others ++ b.taken;
    reads = λ ws. subst (λ (l : Lexemes). Seq G H (us ++ l) ws) (sym (append_assoc a.others b.taken ws)) (Seq.seq (a.reads (b.taken ++ ws)) (b.reads ws));
  }

  stuck_after : {xs ys : Lexemes} {places : ℕ} → Taken G xs ys → Stuck H ys places → Stuck (Seq G H) xs places
  stuck_after {xs} {ys} {places} a b = record {
    front = a.front ++ b.front;
    rest = b.rest;
    split = a.split ∙ ap (λ (l : Lexemes). a.front ++ l) b.split ∙ sym (append_assoc a.front b.front b.rest);
    places_are = b.places_are;
    small = small_both a.front b.front a.small b.small;
    viable = viable_after a.front a.reads b.viable;
  }

  great_after : {xs ys : Lexemes} {places : ℕ} → Taken G xs ys → Great H ys places → Great (Seq G H) xs places
  great_after {xs} {ys} {places} a b = record {
    front = a.front ++ b.front;
    number = b.number;
    rest = b.rest;
    split = a.split ∙ ap (λ (l : Lexemes). a.front ++ l) b.split ∙ sym (append_assoc a.front b.front (b.number ∷ b.rest));
    places_are = b.places_are;
    small = small_both a.front b.front a.small b.small;
    kind_is = b.kind_is;
    above = b.above;
    viable = subst (λ (l : Lexemes). Viable (Seq G H) l) (sym (append_assoc a.front b.front (zeroed b.number ∷ []))) (viable_after a.front a.reads b.viable);
  }

  stuck_before : {xs : Lexemes} {places : ℕ} → Stuck G xs places → Some H → Stuck (Seq G H) xs places
  stuck_before a b = record { front = a.front; rest = a.rest; split = a.split; places_are = a.places_are; small = a.small; viable = viable_before a.viable b }

  great_before : {xs : Lexemes} {places : ℕ} → Great G xs places → Some H → Great (Seq G H) xs places
  great_before a b = record {
    front = a.front;
    number = a.number;
    rest = a.rest;
    split = a.split;
    places_are = a.places_are;
    small = a.small;
    kind_is = a.kind_is;
    above = a.above;
    viable = viable_before a.viable b;
  }

-- a step that may fail, and the rest after it
pub then : {A B : Type 0} {r : Result A Stop} {f : A → Result B Stop} {v : A → Lexemes} {w : B → Lexemes} {G H : Lexemes → Lexemes → Type 0} {xs : Lexemes}
    → Some H → Walks v G xs r → ((a : A) → Walks w H (v a) (f a)) → Walks w (Seq G H) xs (r >>= f)
then {A} {B} {r} {f} {v} {w} {G} {H} {xs} some h g = record { holds = go r h.holds }
  where
    after : (a : A) → Taken G xs (v a) → (s : Result B Stop) → IsWalk w H (v a) s → IsWalk w (Seq G H) xs s
    after a t (Ok b) q = taken_both t q
    after a t (Err (Stop.unread places)) q = stuck_after t q
    after a t (Err (Stop.too_great places)) q = great_after t q

    go : (r : Result A Stop) → IsWalk v G xs r → IsWalk w (Seq G H) xs (r >>= f)
    go (Ok a) t = after a t (f a) (g a).holds
    go (Err (Stop.unread places)) t = stuck_before t some
    go (Err (Stop.too_great places)) t = great_before t some

-- what is read in one way is read in another
pub widen : {A : Type 0} {r : Result A Stop} {v : A → Lexemes} {G H : Lexemes → Lexemes → Type 0} {xs : Lexemes}
    → ((us ys : Lexemes) → G us ys → H us ys) → Walks v G xs r → Walks v H xs r
widen {A} {r} {v} {G} {H} {xs} f h = record { holds = go r h.holds }
  where
    viable : {us : Lexemes} → Viable G us → Viable H us
    viable {us} a = record { others = a.others; reads = λ zs. f (us ++ (a.others ++ zs)) zs (a.reads zs) }

    go : (r : Result A Stop) → IsWalk v G xs r → IsWalk v H xs r
    go (Ok a) t = record { front = t.front; split = t.split; small = t.small; reads = λ zs. f (t.front ++ zs) zs (t.reads zs) }
    go (Err (Stop.unread places)) t = record { front = t.front; rest = t.rest; split = t.split; places_are = t.places_are; small = t.small; viable = viable t.viable }
    go (Err (Stop.too_great places)) t = record {
      front = t.front;
      number = t.number;
      rest = t.rest;
      split = t.split;
      places_are = t.places_are;
      small = t.small;
      kind_is = t.kind_is;
      above = t.above;
      viable = viable t.viable;
    }

-- nothing is taken
pub stay : {A : Type 0} {v : A → Lexemes} (a : A) → Walks v Nil (v a) (Ok a)
stay a = record { holds = record { front = []; split = refl; small = tt; reads = λ zs. Nil.nil } }

pub some_nil : Some Nil
some_nil = record { taken = []; reads = λ zs. Nil.nil }

-- the same rest with another value
pub mapped : {A B : Type 0} {r : Result A Stop} {f : A → Result B Stop} {v : A → Lexemes} {w : B → Lexemes} {G : Lexemes → Lexemes → Type 0} {xs : Lexemes}
    → Walks v G xs r → ((a : A) → Walks w Nil (v a) (f a)) → Walks w G xs (r >>= f)
mapped {G = G} h g = widen alone (then some_nil h g)
  where
    alone : (us ys : Lexemes) → Seq G Nil us ys → G us ys
    alone us ys (Seq.seq p Nil.nil) = p

-- nothing that begins with the first lexeme is read
pub refused : {A : Type 0} {v : A → Lexemes} {G : Lexemes → Lexemes → Type 0} (xs : Lexemes) → Some G → Walks {A = A} v G xs (refuse xs)
refused xs some = record { holds = record { front = []; rest = xs; split = refl; places_are = refl; small = tt; viable = record { others = some.taken; reads = some.reads } } }

pub choose : {A : Type 0} {v : A → Lexemes} {G : Lexemes → Lexemes → Type 0} {xs : Lexemes} {x y : Result A Stop} (b : Bool) → (b ≡ true → Walks v G xs x) → (b ≡ false → Walks v G xs y) → Walks v G xs (cond b x y)
choose true h g = h refl
choose false h g = g refl

-- ---- single lexemes

-- a kind of lexemes that is not a number's
pub record IsPlain (P : Terminal → Type 0) : Type 0 where
  pub some : P k.Nothing → ⊥
  pub no_number : P k.Number → ⊥

pub plain : (c : Terminal) → c ≢ k.Nothing → c ≢ k.Number → IsPlain (Is c)
plain c some no_number = record { some = λ e. some (sym e); no_number = λ e. no_number (sym e) }

-- a lexeme of a kind, and then the rest
pub skipping : {A : Type 0} {r : Result A Stop} {v : A → Lexemes} {P : Terminal → Type 0} {G : Lexemes → Lexemes → Type 0} (xs : Lexemes)
    → IsPlain P → P (kind xs) → Walks v G (next xs) r → Walks v (Seq (Tok P) G) xs r
skipping [] i p h = absurd (i.some p)
skipping {A} {r} {v} {P} {G} (t ∷ xs) i p h = record { holds = go r h.holds }
  where
    first : Taken (Tok P) (t ∷ xs) xs
    first = record { front = t ∷ []; split = refl; small = (λ e. absurd (i.no_number (subst P e p)), tt); reads = λ zs. Tok.tok p }

    go : (r : Result A Stop) → IsWalk v G xs r → IsWalk v (Seq (Tok P) G) (t ∷ xs) r
    go (Ok a) q = taken_both first q
    go (Err (Stop.unread places)) q = stuck_after first q
    go (Err (Stop.too_great places)) q = great_after first q

-- the lexeme of a kind, with nothing else to it
abbrev pub lexeme : Terminal → Lexeme
lexeme c = record { kind = c; value = 0; place = record { start = 0; stop = 0 } }

pub some_token : (c : Terminal) → Some (Tok (Is c))
some_token c = record { taken = lexeme c ∷ []; reads = λ zs. Tok.tok refl }

pub some_seq : {G H : Lexemes → Lexemes → Type 0} → Some G → Some H → Some (Seq G H)
some_seq {G} {H} a b = record {
  taken = a.taken ++ b.taken;
  reads = λ zs. subst (λ (l : Lexemes). Seq G H l zs) (sym (append_assoc a.taken b.taken zs)) (Seq.seq (a.reads (b.taken ++ zs)) (b.reads zs));
}

pub some_left : {G H : Lexemes → Lexemes → Type 0} → Some G → Some (Or G H)
some_left a = record { taken = a.taken; reads = λ zs. Or.left (a.reads zs) }

pub some_in : {G H : Lexemes → Lexemes → Type 0} → ((us ys : Lexemes) → G us ys → H us ys) → Some G → Some H
some_in f a = record { taken = a.taken; reads = λ zs. f (a.taken ++ zs) zs (a.reads zs) }

pub token_walk : (c : Terminal) → IsPlain (Is c) → (xs : Lexemes) → Walks (λ ys. ys) (Tok (Is c)) xs (expect c xs)
unfolding expect
token_walk c i xs = choose (same (kind xs) c)
    (λ e. widen (λ us ys h. alone us ys h) (skipping xs i (same_is (kind xs) c e) (stay (next xs))))
    (λ e. refused xs (some_token c))
  where
    alone : (us ys : Lexemes) → Seq (Tok (Is c)) Nil us ys → Tok (Is c) us ys
    alone us ys (Seq.seq t Nil.nil) = t

-- ---- lexemes that do not begin with a number

-- what takes at least one lexeme, where that is no number
pub guard : {A : Type 0} {r : Result A Stop} {v : A → Lexemes} {G : Lexemes → Lexemes → Type 0} {xs : Lexemes}
    → kind xs ≢ k.Number → Some (Guarded k.Number G) → ((zs : Lexemes) → G zs zs → ⊥) → Walks v G xs r → Walks v (Guarded k.Number G) xs r
guard {A} {r} {v} {G} {xs} other some strict h = record { holds = go r h.holds }
  where
    differs_at : (u : Lexeme) (us : Lexemes) → xs ≡ u ∷ us → u.kind ≢ k.Number
    differs_at u us e = λ f. other (ap kind e ∙ f)

    taken : {ys : Lexemes} (front : Lexemes) → xs ≡ front ++ ys → AreSmall front → ((zs : Lexemes) → G (front ++ zs) zs) → Taken (Guarded k.Number G) xs ys
    taken [] e small reads = absurd (strict [] (reads []))
    taken {ys} (u ∷ us) e small reads = record { front = u ∷ us; split = e; small = small; reads = λ zs. Guarded.guarded (differs_at u (us ++ ys) e) (reads zs) }

    viable : (front rest : Lexemes) → xs ≡ front ++ rest → Viable G front → Viable (Guarded k.Number G) front
    viable [] rest e a = record { others = some.taken; reads = some.reads }
    viable (u ∷ us) rest e a = record { others = a.others; reads = λ zs. Guarded.guarded (differs_at u (us ++ rest) e) (a.reads zs) }

    before : (front : Lexemes) (number : Lexeme) (rest : Lexemes) → xs ≡ front ++ number ∷ rest → number.kind ≡ k.Number → Viable G (front ++ zeroed number ∷ []) → Viable (Guarded k.Number G) (front ++ zeroed number ∷ [])
    before [] number rest e f a = absurd (differs_at number rest e f)
    before (u ∷ us) number rest e f a = record { others = a.others; reads = λ zs. Guarded.guarded (differs_at u (us ++ number ∷ rest) e) (a.reads zs) }

    go : (r : Result A Stop) → IsWalk v G xs r → IsWalk v (Guarded k.Number G) xs r
    go (Ok a) t = taken t.front t.split t.small t.reads
    go (Err (Stop.unread places)) t = record { front = t.front; rest = t.rest; split = t.split; places_are = t.places_are; small = t.small; viable = viable t.front t.rest t.split t.viable }
    go (Err (Stop.too_great places)) t = record {
      front = t.front;
      number = t.number;
      rest = t.rest;
      split = t.split;
      places_are = t.places_are;
      small = t.small;
      kind_is = t.kind_is;
      above = t.above;
      viable = before t.front t.number t.rest t.split t.kind_is t.viable;
    }
