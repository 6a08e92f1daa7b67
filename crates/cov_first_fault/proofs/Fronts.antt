-- Fronts of a list of lexemes, and what the function's stop says of them.
use Rattle.std.proofs.Common.{◌≡◌, ℕ, ◌<◌, ◌≤◌, List, [], ◌∷◌, ◌++◌, length, Ok, Err, ◌⊎◌, inl, inr, refl, sym, ap, subst, ◌∙◌, arith, append_assoc, append-nil}
use Rattle.std.proofs.lemmas.List.{map-append}
use Rattle.cov_syntax.specs.declared.lexeme.Lexeme.{Lexeme}
use Rattle.cov_syntax.specs.declared.lexeme.Terminal.{Terminal}
use Rattle.cov_syntax.specs.declared.lexeme.Terminal.TheVariants as k
use Rattle.cov_syntax.specs.declared.program.ModuleTree.{ModuleTree}
use Rattle.cov_syntax.specs.Lexemes.{Lexemes, greatest_number}
use Rattle.cov_syntax.specs.Programs.{ReadsModules}
use Rattle.cov_grammar.specs.Steps.{Stop}
use Rattle.cov_grammar.specs.Modules.{program}
use Rattle.cov_grammar.proofs.ModuleCompleteness.{program_answers}
use Rattle.cov_first_fault.specs.FirstFault.{kinds, Continues, AreSmall}
use Rattle.cov_first_fault.proofs.Steps.{Any, Viable, Taken, IsWalk, zeroed}
use Rattle.cov_first_fault.proofs.ModuleWalks.{nothing, program_walk}
use Rattle.cov_first_fault.proofs.Agreement.{Agree, agree_past}
use Rattle.cov_first_fault.proofs.ModuleLocality.{stops_behind}

-- ---- fronts

pub kinds_append : (xs ys : Lexemes) → kinds (xs ++ ys) ≡ kinds xs ++ kinds ys
kinds_append xs ys = map-append (λ (t : Lexeme). t.kind) xs ys

-- with the lexeme behind the front
pub one_more : (front : Lexemes) (t : Lexeme) (rest : Lexemes) → front ++ t ∷ rest ≡ (front ++ t ∷ []) ++ rest
one_more front t rest = sym (append_assoc front (t ∷ []) rest)

pub continues_front : (front ys : Lexemes) → Continues (front ++ ys) → Continues front
continues_front front ys c = record {
  whole = c.whole;
  others = kinds ys ++ c.others;
  begins = c.begins ∙ ap (λ l. l ++ c.others) (kinds_append front ys) ∙ append_assoc (kinds front) (kinds ys) c.others;
  trees = c.trees;
  reads = c.reads;
}

continues_kinds : (xs ys : Lexemes) → kinds xs ≡ kinds ys → Continues xs → Continues ys
continues_kinds xs ys e c = record { whole = c.whole; others = c.others; begins = c.begins ∙ ap (λ l. l ++ c.others) e; trees = c.trees; reads = c.reads }

pub continues_read : (xs : Lexemes) (trees : List ModuleTree) → ReadsModules xs trees [] → Continues xs
continues_read xs trees p = record { whole = xs; others = []; begins = sym (append-nil (kinds xs)); trees = trees; reads = p }

pub small_front : (front ys : Lexemes) → AreSmall (front ++ ys) → AreSmall front
small_front [] ys a = tt
small_front (t ∷ front) ys a = (a.0, small_front front ys a.1)

pub small_at : (front : Lexemes) (t : Lexeme) (ys : Lexemes) → AreSmall (front ++ t ∷ ys) → t.kind ≡ k.Number → t.value ≤ greatest_number
small_at [] t ys a e = a.0 e
small_at (u ∷ front) t ys a e = small_at front t ys a.1 e

-- two fronts of one list
pub compare : (us : Lexemes) (t : Lexeme) (xs vs : Lexemes) (u : Lexeme) (ys : Lexemes) → us ++ t ∷ xs ≡ vs ++ u ∷ ys
    → ((us ≡ vs) × (t ≡ u)) ⊎ (((ws : Lexemes) × (vs ≡ us ++ t ∷ ws)) ⊎ ((ws : Lexemes) × (us ≡ vs ++ u ∷ ws)))
compare [] t xs [] u ys e = inl (refl, cc)
compare [] t xs (v ∷ vs) u ys e = let f : t ≡ v = cc in inr (inl (vs, ap (λ (w : Lexeme). w ∷ vs) (sym f)))
compare (w ∷ us) t xs [] u ys e = let f : w ≡ u = cc in inr (inr (us, ap (λ (v : Lexeme). v ∷ us) f))
compare (w ∷ us) t xs (v ∷ vs) u ys e =
    let f : w ≡ v = cc in
    let g : us ++ t ∷ xs ≡ vs ++ u ∷ ys = cc in
    elim (compare us t xs vs u ys g) [
      | inl h ↦ inl ((λ i. f i ∷ h.0 i), h.1)
      | inr (inl h) ↦ inr (inl (h.0, (λ i. sym f i ∷ h.1 i)))
      | inr (inr h) ↦ inr (inr (h.0, (λ i. f i ∷ h.1 i)))
    ]

-- ---- what a walk says

continues_walk : (front : Lexemes) → Viable (Any ReadsModules) front → Continues front
continues_walk front a = go (a.reads [])
  where
    go : Any ReadsModules (front ++ (a.others ++ [])) [] → Continues front
    go (Any.any {a = trees} p) = record { whole = front ++ (a.others ++ []); others = kinds (a.others ++ []); begins = kinds_append front (a.others ++ []); trees = trees; reads = p }

-- the lexeme counts by its kind alone
zeroed_kinds : (front : Lexemes) (t : Lexeme) → kinds (front ++ zeroed t ∷ []) ≡ kinds (front ++ t ∷ [])
zeroed_kinds front t = kinds_append front (zeroed t ∷ []) ∙ sym (kinds_append front (t ∷ []))

agree_kinds : (us rest ys : Lexemes) (others : List Terminal) → kinds ys ≡ kinds us ++ others → Agree (length rest) (us ++ rest) ys
agree_kinds [] rest ys others e = agree_past rest ys (omega arith)
agree_kinds (u ∷ us) rest [] others e = absurd cc
agree_kinds (u ∷ us) rest (v ∷ ys) others e = λ lt.
    let f : u.kind ≡ v.kind = cc in
    let g : kinds ys ≡ kinds us ++ others = cc in
    (f, agree_kinds us rest ys others g)

-- no program goes on with the lexeme at which the function stops
stops : (front : Lexemes) (t : Lexeme) (rest : Lexemes) → program (front ++ t ∷ rest) ≡ Err (Stop.unread (length (t ∷ rest))) → Continues (front ++ t ∷ []) → ⊥
stops front t rest e c =
    let h : Agree (length rest) (front ++ t ∷ rest) c.whole = subst (λ (l : Lexemes). Agree (length rest) l c.whole) (sym (one_more front t rest)) (agree_kinds (front ++ t ∷ []) rest c.whole c.others c.begins) in
    let le : length (t ∷ rest) ≤ length rest = stops_behind (front ++ t ∷ rest) c.whole h e (program_answers c.reads) in
    omega arith

-- what the function's stop says
pub data Failed (xs : Lexemes) : Stop → Type 0 where
  ended : Continues xs → AreSmall xs → Failed xs (Stop.unread 0)
  stuck : (front : Lexemes) (t : Lexeme) (rest : Lexemes) → xs ≡ front ++ t ∷ rest → Continues front → AreSmall front → (Continues (front ++ t ∷ []) → ⊥) → Failed xs (Stop.unread (length (t ∷ rest)))
  great : (front : Lexemes) (t : Lexeme) (rest : Lexemes) → xs ≡ front ++ t ∷ rest → AreSmall front → Continues (front ++ t ∷ []) → t.kind ≡ k.Number → greatest_number < t.value → Failed xs (Stop.too_great (length (t ∷ rest)))

pub failed : (xs : Lexemes) (stop : Stop) → program xs ≡ Err stop → Failed xs stop
failed xs stop e = go stop e (subst (λ r. IsWalk nothing (Any ReadsModules) xs r) e (program_walk xs).holds)
  where
    at_rest : (front rest : Lexemes) (places : ℕ) → program xs ≡ Err (Stop.unread places) → xs ≡ front ++ rest → length rest ≡ places → AreSmall front → Viable (Any ReadsModules) front → Failed xs (Stop.unread places)
    at_rest front [] places f split is small a =
        let whole : front ≡ xs = sym (append-nil front) ∙ sym split in
        subst (λ n. Failed xs (Stop.unread n)) is (Failed.ended (subst (λ l. Continues l) whole (continues_walk front a)) (subst (λ l. AreSmall l) whole small))
    at_rest front (t ∷ rest) places f split is small a =
        subst (λ n. Failed xs (Stop.unread n)) is (Failed.stuck front t rest split (continues_walk front a) small
        (stops front t rest (subst (λ l. program l ≡ Err (Stop.unread (length (t ∷ rest)))) split (f ∙ ap (λ n. Err (Stop.unread n)) (sym is)))))

    go : (stop : Stop) → program xs ≡ Err stop → IsWalk nothing (Any ReadsModules) xs (Err stop) → Failed xs stop
    go (Stop.unread places) f s = at_rest s.front s.rest places f s.split s.places_are s.small s.viable
    go (Stop.too_great places) f s =
        subst (λ n. Failed xs (Stop.too_great n)) s.places_are
        (Failed.great s.front s.number s.rest s.split s.small (continues_kinds (s.front ++ zeroed s.number ∷ []) (s.front ++ s.number ∷ []) (zeroed_kinds s.front s.number) (continues_walk _ s.viable)) s.kind_is s.above)

-- numbers of what is read are small
pub small_read : (xs : Lexemes) (trees : List ModuleTree) → program xs ≡ Ok trees → AreSmall xs
small_read xs trees e =
    let t : Taken (Any ReadsModules) xs [] = subst (λ r. IsWalk nothing (Any ReadsModules) xs r) e (program_walk xs).holds in
    subst (λ l. AreSmall l) (sym (append-nil t.front) ∙ sym t.split) t.small
