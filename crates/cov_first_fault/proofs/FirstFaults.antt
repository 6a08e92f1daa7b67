-- A list of lexemes has one first fault, or is a program; and it is what the function stops at.
use Rattle.std.proofs.Common.{◌≡◌, ◌≢◌, ℕ, zero, suc, ◌+◌, ◌-◌, false, List, [], ◌∷◌, ◌++◌, length, take, length-append, Option, Some, None, Result, Ok, Err, ◌⊎◌, inl, inr, refl, sym, ap, subst, ◌∙◌, arith, append_assoc, append-nil}
use Rattle.std.specs.Prelude.{slice_get}
use Rattle.std.proofs.lemmas.Option.{slice_get_past}
use Rattle.std.proofs.lemmas.Result.{IfOk-at_ok}
use Rattle.cov_syntax.specs.declared.fault.FaultKind.{FaultKind}
use Rattle.cov_syntax.specs.declared.fault.FaultKind.TheVariants as fault
use Rattle.cov_syntax.specs.declared.fault.ModelFault.{ModelFault}
use Rattle.cov_syntax.specs.declared.lexeme.Lexeme.{Lexeme}
use Rattle.cov_syntax.specs.declared.lexeme.Terminal.TheVariants as k
use Rattle.cov_syntax.specs.declared.program.ModuleTree.{ModuleTree}
use Rattle.cov_syntax.specs.Faults.{code_of}
use Rattle.cov_syntax.specs.Lexemes.{Lexemes}
use Rattle.cov_syntax.specs.Limits.{deep, IsShallow}
use Rattle.cov_syntax.specs.Programs.{ReadsModules}
use Rattle.cov_grammar.specs.Steps.{Stop}
use Rattle.cov_grammar.specs.Modules.{program}
use Rattle.cov_grammar.proofs.ModuleSoundness.{program_sound}
use Rattle.cov_grammar.proofs.ModuleCompleteness.{program_answers}
use Rattle.cov_first_fault.specs.FirstFault.{Continues, AreSmall, IsClean, IsWrong, IsFirstFault}
use Rattle.cov_first_fault.specs.Stops.{lexeme_at, unread_at, told, stop_fault, deep_by, deep_fault}
use Rattle.cov_first_fault.proofs.Depth.{shallow_front, deep_at}
use Rattle.cov_first_fault.proofs.Fronts.{one_more, continues_front, continues_read, small_front, small_at, compare, Failed, failed, small_read}

-- ---- at most one

shallow_of : (front ys : Lexemes) → IsShallow (front ++ ys) → IsShallow front
shallow_of front ys e = shallow_front false (0 ∷ []) front ys e

-- where something is wrong, the lexemes up to there are not clean
wrong_clean : {front : Lexemes} {t : Lexeme} {kind : FaultKind} (ys : Lexemes) → IsWrong front t kind → IsClean (front ++ t ∷ ys) → ⊥
wrong_clean {front} {t} ys (IsWrong.unread never) c = never (continues_front (front ++ t ∷ []) ys (subst (λ l. Continues l) (one_more front t ys) c.continues))
wrong_clean {front} {t} ys (IsWrong.deep goes never) c = never (shallow_of (front ++ t ∷ []) ys (subst (λ l. IsShallow l) (one_more front t ys) c.shallow))
wrong_clean {front} {t} ys (IsWrong.great goes shallow is above) c = let le = small_at front t ys c.small is in absurd (omega arith)

one_kind : {front : Lexemes} {t : Lexeme} {a b : FaultKind} → IsWrong front t a → IsWrong front t b → a ≡ b
one_kind (IsWrong.unread never) (IsWrong.unread never') = refl
one_kind (IsWrong.unread never) (IsWrong.deep goes never') = absurd (never goes)
one_kind (IsWrong.unread never) (IsWrong.great goes shallow is above) = absurd (never goes)
one_kind (IsWrong.deep goes never) (IsWrong.unread never') = absurd (never' goes)
one_kind (IsWrong.deep goes never) (IsWrong.deep goes' never') = refl
one_kind (IsWrong.deep goes never) (IsWrong.great goes' shallow is above) = absurd (never shallow)
one_kind (IsWrong.great goes shallow is above) (IsWrong.unread never') = absurd (never' goes)
one_kind (IsWrong.great goes shallow is above) (IsWrong.deep goes' never) = absurd (never shallow)
one_kind (IsWrong.great goes shallow is above) (IsWrong.great goes' shallow' is' above') = refl

same_fault : {us vs : Lexemes} {t u : Lexeme} {a b : FaultKind} → us ≡ vs → t ≡ u → IsWrong us t a → IsWrong vs u b → told 0 a (Some t) ≡ told 0 b (Some u)
same_fault {us} {vs} {t} {u} {a} {b} e f p q =
    let r : IsWrong us u a = subst (λ (x : Lexeme). IsWrong us x a) f p in
    let s : IsWrong vs u a = subst (λ (l : Lexemes). IsWrong l u a) e r in
    let kinds : a ≡ b = one_kind s q in
    λ i. record { code = code_of (kinds i); place = (f i).place }

pub one_fault : {end : ℕ} {xs : Lexemes} {f g : ModelFault} → IsFirstFault end xs f → IsFirstFault end xs g → f ≡ g
one_fault (IsFirstFault.ended c never) (IsFirstFault.ended c' never') = refl
one_fault (IsFirstFault.ended c never) (IsFirstFault.wrong rest split c' w) = absurd (wrong_clean rest w (subst (λ l. IsClean l) split c))
one_fault (IsFirstFault.wrong rest split c w) (IsFirstFault.ended c' never) = absurd (wrong_clean rest w (subst (λ l. IsClean l) split c'))
one_fault (IsFirstFault.wrong {front = us} {t = t} rest split c w) (IsFirstFault.wrong {front = vs} {t = u} rest' split' c' w') =
    elim (compare us t rest vs u rest' (sym split ∙ split')) [
      | inl h ↦ same_fault h.0 h.1 w w'
      | inr (inl h) ↦ absurd (wrong_clean h.0 w (subst (λ l. IsClean l) h.1 c'))
      | inr (inr h) ↦ absurd (wrong_clean h.0 w' (subst (λ l. IsClean l) h.1 c))
    ]

clean_read : (xs : Lexemes) (trees : List ModuleTree) → ReadsModules xs trees [] → IsShallow xs → IsClean xs
clean_read xs trees p shallow = record { continues = continues_read xs trees p; shallow = shallow; small = small_read xs trees (program_answers p) }

pub no_fault : {end : ℕ} {xs : Lexemes} {f : ModelFault} (trees : List ModuleTree) → ReadsModules xs trees [] → IsShallow xs → IsFirstFault end xs f → ⊥
no_fault trees p shallow (IsFirstFault.ended c never) = never trees p
no_fault {xs = xs} trees p shallow (IsFirstFault.wrong rest split c w) = wrong_clean rest w (subst (λ l. IsClean l) split (clean_read xs trees p shallow))

-- ---- the lexeme with so many left

get_at : (front : Lexemes) (t : Lexeme) (rest : Lexemes) → slice_get (front ++ t ∷ rest) (length front) ≡ Some t
get_at [] t rest = refl
get_at (u ∷ front) t rest = get_at front t rest

take_at : (front : Lexemes) (t : Lexeme) (rest : Lexemes) → take (suc (length front)) (front ++ t ∷ rest) ≡ front ++ t ∷ []
take_at [] t rest = refl
take_at (u ∷ front) t rest = ap (λ (l : Lexemes). u ∷ l) (take_at front t rest)

place_is : (front : Lexemes) (t : Lexeme) (rest : Lexemes) → length (front ++ t ∷ rest) - length (t ∷ rest) ≡ length front
place_is front t rest = omega (arith, length-append front (t ∷ rest))

at_is : (front : Lexemes) (t : Lexeme) (rest : Lexemes) → lexeme_at (front ++ t ∷ rest) (length (t ∷ rest)) ≡ Some t
at_is front t rest = ap (λ n. slice_get (front ++ t ∷ rest) n) (place_is front t rest) ∙ get_at front t rest

at_end : (xs : Lexemes) → lexeme_at xs 0 ≡ None
at_end xs = slice_get_past xs (length xs - 0) (omega arith)

-- ---- what the function stops at

not_read : (xs : Lexemes) (stop : Stop) → program xs ≡ Err stop → (trees : List ModuleTree) → ReadsModules xs trees [] → ⊥
not_read xs stop e trees p = let f = program_answers p in absurd cc

-- the fault of a stop, where the whole is longer than what is read
stop_is : (end : ℕ) (xs ys more : Lexemes) (places : ℕ) → xs ≡ ys ++ more → ((us : Lexemes) (u : Lexeme) (ws : Lexemes) → ys ≡ us ++ u ∷ ws → IsShallow us)
    → ((us : Lexemes) (u : Lexeme) (ws : Lexemes) → ys ≡ us ++ u ∷ ws → u.kind ≡ k.Number → IsShallow (us ++ u ∷ []))
    → (stop : Stop) → Failed ys stop → stop ≢ Stop.unread 0 → IsFirstFault end xs (stop_fault end ys stop)
stop_is end xs ys more places whole shallow shallow' (Stop.unread n) (Failed.ended c small) other = absurd (other refl)
stop_is end xs ys more places whole shallow shallow' (Stop.unread n) (Failed.stuck front t rest split c small never) other =
    let split' : xs ≡ front ++ t ∷ (rest ++ more) = whole ∙ ap (λ l. l ++ more) split ∙ append_assoc front (t ∷ rest) more in
    let at : lexeme_at ys (length (t ∷ rest)) ≡ Some t = ap (λ l. lexeme_at l (length (t ∷ rest))) split ∙ at_is front t rest in
    subst (λ o. IsFirstFault end xs (told end (unread_at o) o)) (sym at)
    (IsFirstFault.wrong (rest ++ more) split' (record { continues = c; shallow = shallow front t rest split; small = small }) (IsWrong.unread never))
stop_is end xs ys more places whole shallow shallow' (Stop.too_great n) (Failed.great front t rest split small c is above) other =
    let split' : xs ≡ front ++ t ∷ (rest ++ more) = whole ∙ ap (λ l. l ++ more) split ∙ append_assoc front (t ∷ rest) more in
    let at : lexeme_at ys (length (t ∷ rest)) ≡ Some t = ap (λ l. lexeme_at l (length (t ∷ rest))) split ∙ at_is front t rest in
    subst (λ o. IsFirstFault end xs (told end fault.RangeTooWide o)) (sym at)
    (IsFirstFault.wrong (rest ++ more) split' (record { continues = continues_front front (t ∷ []) c; shallow = shallow front t rest split; small = small }) (IsWrong.great c (shallow' front t rest split is) is above))

-- no lexeme is too deep
pub stop_fault_is : (end : ℕ) (xs : Lexemes) (stop : Stop) → program xs ≡ Err stop → IsShallow xs → IsFirstFault end xs (stop_fault end xs stop)
stop_fault_is end xs stop e shallow = go stop e (failed xs stop e)
  where
    front_shallow : (us : Lexemes) (u : Lexeme) (ws : Lexemes) → xs ≡ us ++ u ∷ ws → IsShallow us
    front_shallow us u ws split = shallow_of us (u ∷ ws) (subst (λ l. IsShallow l) split shallow)

    more_shallow : (us : Lexemes) (u : Lexeme) (ws : Lexemes) → xs ≡ us ++ u ∷ ws → u.kind ≡ k.Number → IsShallow (us ++ u ∷ [])
    more_shallow us u ws split is = shallow_of (us ++ u ∷ []) ws (subst (λ l. IsShallow l) (split ∙ one_more us u ws) shallow)

    go : (stop : Stop) → program xs ≡ Err stop → Failed xs stop → IsFirstFault end xs (stop_fault end xs stop)
    go (Stop.unread n) f (Failed.ended c small) =
        subst (λ o. IsFirstFault end xs (told end (unread_at o) o)) (sym (at_end xs))
        (IsFirstFault.ended (record { continues = c; shallow = shallow; small = small }) (not_read xs (Stop.unread 0) f))
    go (Stop.unread n) f (Failed.stuck front t rest split c small never) = stop_is end xs xs [] n (sym (append-nil xs)) front_shallow more_shallow _ (Failed.stuck front t rest split c small never) (λ h. cc)
    go (Stop.too_great n) f (Failed.great front t rest split small c is above) = stop_is end xs xs [] n (sym (append-nil xs)) front_shallow more_shallow _ (Failed.great front t rest split small c is above) (λ h. cc)

-- ---- where a lexeme is too deep

-- a front of all but the last
front_of : (front : Lexemes) (t : Lexeme) (us : Lexemes) (u : Lexeme) (ws : Lexemes) → front ++ t ∷ [] ≡ us ++ u ∷ ws → ((us ≡ front) × (u ≡ t)) ⊎ ((vs : Lexemes) × (front ≡ us ++ u ∷ vs))
front_of front t us u ws e = elim (compare front t [] us u ws e) [
  | inl h ↦ inl (sym h.0, sym h.1)
  | inr (inl h) ↦
      let i = ap length (e ∙ ap (λ (l : Lexemes). l ++ u ∷ ws) h.1) in
      absurd (omega (arith, i, length-append front (t ∷ []), length-append (front ++ t ∷ h.0) (u ∷ ws), length-append front (t ∷ h.0)))
  | inr (inr h) ↦ inr h
]

module _ (end : ℕ) (front : Lexemes) (t : Lexeme) (rest : Lexemes) (before : IsShallow front) (here : deep false (0 ∷ []) (front ++ t ∷ []) ≡ Some 1) (no_number : t.kind ≢ k.Number) where
  too_deep : Continues (front ++ t ∷ []) → AreSmall (front ++ t ∷ []) → IsFirstFault end (front ++ t ∷ rest) (told end fault.TooDeep (Some t))
  too_deep c small = IsFirstFault.wrong rest refl (record { continues = continues_front front (t ∷ []) c; shallow = before; small = small_front front (t ∷ []) small }) (IsWrong.deep c (λ e. cc))

  front_shallow : (us : Lexemes) (u : Lexeme) (ws : Lexemes) → front ++ t ∷ [] ≡ us ++ u ∷ ws → IsShallow us
  front_shallow us u ws e = elim (front_of front t us u ws e) [
    | inl h ↦ subst (λ l. IsShallow l) (sym h.0) before
    | inr h ↦ shallow_of us (u ∷ h.0) (subst (λ l. IsShallow l) h.1 before)
  ]

  more_shallow : (us : Lexemes) (u : Lexeme) (ws : Lexemes) → front ++ t ∷ [] ≡ us ++ u ∷ ws → u.kind ≡ k.Number → IsShallow (us ++ u ∷ [])
  more_shallow us u ws e is = elim (front_of front t us u ws e) [
    | inl h ↦ absurd (no_number (ap (λ (x : Lexeme). x.kind) (sym h.1) ∙ is))
    | inr h ↦ shallow_of (us ++ u ∷ []) h.0 (subst (λ l. IsShallow l) (h.1 ∙ one_more us u h.0) before)
  ]

  deep_by_is : (r : Result (List ModuleTree) Stop) → program (front ++ t ∷ []) ≡ r → IsFirstFault end (front ++ t ∷ rest) (deep_by end (front ++ t ∷ []) (Some t) r)
  deep_by_is (Ok trees) e =
      too_deep (continues_read (front ++ t ∷ []) trees (IfOk-at_ok (λ (found : List ModuleTree). ReadsModules (front ++ t ∷ []) found []) e (program_sound (front ++ t ∷ [])))) (small_read (front ++ t ∷ []) trees e)
  deep_by_is (Err (Stop.unread zero)) e = go (Stop.unread zero) refl (failed (front ++ t ∷ []) (Stop.unread zero) e)
    where
      go : (stop : Stop) → stop ≡ Stop.unread zero → Failed (front ++ t ∷ []) stop → IsFirstFault end (front ++ t ∷ rest) (told end fault.TooDeep (Some t))
      go (Stop.unread n) f (Failed.ended c small) = too_deep c small
      go (Stop.unread n) f (Failed.stuck us u ws split c small never) = absurd cc
      go (Stop.too_great n) f p = absurd cc
  deep_by_is (Err (Stop.unread (suc places))) e =
      stop_is end (front ++ t ∷ rest) (front ++ t ∷ []) rest (suc places) (one_more front t rest) front_shallow more_shallow (Stop.unread (suc places)) (failed (front ++ t ∷ []) (Stop.unread (suc places)) e) (λ h. cc)
  deep_by_is (Err (Stop.too_great places)) e =
      stop_is end (front ++ t ∷ rest) (front ++ t ∷ []) rest places (one_more front t rest) front_shallow more_shallow (Stop.too_great places) (failed (front ++ t ∷ []) (Stop.too_great places) e) (λ h. cc)

  front_is : take (length (front ++ t ∷ rest) - length (t ∷ rest) + 1) (front ++ t ∷ rest) ≡ front ++ t ∷ []
  front_is =
      let i : length (front ++ t ∷ rest) - length (t ∷ rest) + 1 ≡ suc (length front) = omega (arith, place_is front t rest) in
      ap (λ n. take n (front ++ t ∷ rest)) i ∙ take_at front t rest

  deep_split : IsFirstFault end (front ++ t ∷ rest) (deep_fault end (front ++ t ∷ rest) (length (t ∷ rest)))
  unfolding deep_fault
  deep_split =
      subst (λ o. IsFirstFault end (front ++ t ∷ rest) (deep_by end (take (length (front ++ t ∷ rest) - length (t ∷ rest) + 1) (front ++ t ∷ rest)) o (program (take (length (front ++ t ∷ rest) - length (t ∷ rest) + 1) (front ++ t ∷ rest))))) (sym (at_is front t rest))
      (subst (λ (l : Lexemes). IsFirstFault end (front ++ t ∷ rest) (deep_by end l (Some t) (program l))) (sym front_is) (deep_by_is (program (front ++ t ∷ [])) refl))

-- some lexeme is too deep
pub deep_fault_is : (end : ℕ) (xs : Lexemes) (places : ℕ) → deep false (0 ∷ []) xs ≡ Some places → IsFirstFault end xs (deep_fault end xs places)
deep_fault_is end xs places e =
    let d = deep_at false (0 ∷ []) xs places refl e in
    subst (λ (l : Lexemes). IsFirstFault end l (deep_fault end l places)) (sym d.split)
    (subst (λ n. IsFirstFault end (d.front ++ d.lexeme ∷ d.rest) (deep_fault end (d.front ++ d.lexeme ∷ d.rest) n)) d.places_are
    (deep_split end d.front d.lexeme d.rest d.before d.here d.no_number))

-- ---- one of the two

pub some_fault : (end : ℕ) (xs : Lexemes) → ((trees : List ModuleTree) × ReadsModules xs trees [] × IsShallow xs) ⊎ ((f : ModelFault) × IsFirstFault end xs f)
some_fault end xs = by_depth (deep false (0 ∷ []) xs) refl
  where
    by_stop : IsShallow xs → (r : Result (List ModuleTree) Stop) → program xs ≡ r → ((trees : List ModuleTree) × ReadsModules xs trees [] × IsShallow xs) ⊎ ((f : ModelFault) × IsFirstFault end xs f)
    by_stop shallow (Ok trees) e = inl (trees, IfOk-at_ok (λ (found : List ModuleTree). ReadsModules xs found []) e (program_sound xs), shallow)
    by_stop shallow (Err stop) e = inr (stop_fault end xs stop, stop_fault_is end xs stop e shallow)

    by_depth : (o : Option ℕ) → deep false (0 ∷ []) xs ≡ o → ((trees : List ModuleTree) × ReadsModules xs trees [] × IsShallow xs) ⊎ ((f : ModelFault) × IsFirstFault end xs f)
    by_depth None e = by_stop e (program xs) refl
    by_depth (Some places) e = inr (deep_fault end xs places, deep_fault_is end xs places e)
