-- The signals of a model by their flat names.
use Rattle.std.proofs.Common.{◌≡◌, ℕ, ◌<◌, Bool, true, false, [], length, Option, Some, None, refl, ap, ◌∙◌, inl, inr}
use Rattle.std.specs.Prelude.{◌&&◌, ◌⊎◌, slice_get}
use Rattle.std.specs.Bool.{Decides}
use Rattle.std.specs.Option.{option_map_or}
use Rattle.std.specs.Str.{bytes_eq}
use Rattle.std.proofs.lemmas.Bool.{and_parts}
use Rattle.std.proofs.lemmas.Bool.Decides.{Decides-below_or, Decides-or}
use Rattle.std.proofs.lemmas.Option.{get_or_from_slice_get, slice_get_within}
use Rattle.std.proofs.lemmas.Slice.Eq.{bytes_eq-Decides}
use Rattle.cov_syntax.specs.Tokens.{Text}
use Rattle.cov_model.specs.declared.model.Define.{Define}
use Rattle.cov_model.specs.declared.model.Model.{Model}
use Rattle.cov_model.specs.declared.model.Signal.{Signal}
use Rattle.cov_model.specs.declared.model.Signal.TheVariants as signal
use Rattle.cov_model.specs.declared.model.Var.{Var}
use Rattle.cov_model.specs.Kinds.{is_boolean, kind_at}
use Rattle.cov_model.specs.Settled.{kinds_of}
use Rattle.cov_types.specs.Signals.{IsDefineNamed, IsSignalNamed, IsVariableNamed}
use Rattle.cov_evid.specs.FirstFault.{any_below, is_define_named, is_name_text, is_signal_name, is_variable_named}
use Rattle.cov_evid.specs.Spelling.{signal_text}

module _ (m : Model) (name : Text) where
  -- the text of a signal is its flat name
  pub named_text : (q : Signal) → IsSignalNamed m name q → signal_text m q ≡ name
  named_text (signal.Var i) v = rw v.there (get_or_from_slice_get m.names v.variable.name name [] v.named)
  named_text (signal.Def i) v = rw v.there (get_or_from_slice_get m.names v.define.name name [] v.named)

  name_to : (k : ℕ) → is_name_text m k name ≡ true → slice_get m.names k ≡ Some name
  name_to k h = by (slice_get m.names k) refl h
    where
      by : (o : Option Text) → slice_get m.names k ≡ o → option_map_or (λ (t : Text). bytes_eq t name) o false ≡ true → slice_get m.names k ≡ Some name
      by None e h = absurd cc
      by (Some t) e h = e ∙ ap (λ (u : Text). Some u) ((bytes_eq-Decides t name).0 h)

  name_from : (k : ℕ) → slice_get m.names k ≡ Some name → is_name_text m k name ≡ true
  name_from k e = rw e ((bytes_eq-Decides name name).1 refl)

  variable_to : (i : ℕ) → is_variable_named m name i ≡ true → IsVariableNamed m name i
  variable_to i h = by (slice_get m.vars i) refl h
    where
      by : (o : Option Var) → slice_get m.vars i ≡ o → (option_map_or (λ (x : Var). is_name_text m x.name name) o false && is_boolean (kind_at (kinds_of m).vars i)) ≡ true → IsVariableNamed m name i
      by None e h = absurd (let p = and_parts false (is_boolean (kind_at (kinds_of m).vars i)) h in cc (p.0))
      by (Some x) e h =
          let p = and_parts (is_name_text m x.name name) (is_boolean (kind_at (kinds_of m).vars i)) h in
          record { variable = x; there = e; named = name_to x.name p.0; boolean = p.1 }

  variable_from : (i : ℕ) → IsVariableNamed m name i → is_variable_named m name i ≡ true
  variable_from i v = rw (v.there, name_from v.variable.name v.named, v.boolean) refl

  define_to : (i : ℕ) → is_define_named m name i ≡ true → IsDefineNamed m name i
  define_to i h = by (slice_get m.defines i) refl h
    where
      by : (o : Option Define) → slice_get m.defines i ≡ o → (option_map_or (λ (x : Define). is_name_text m x.name name) o false && is_boolean (kind_at (kinds_of m).defs i)) ≡ true → IsDefineNamed m name i
      by None e h = absurd (let p = and_parts false (is_boolean (kind_at (kinds_of m).defs i)) h in cc (p.0))
      by (Some x) e h =
          let p = and_parts (is_name_text m x.name name) (is_boolean (kind_at (kinds_of m).defs i)) h in
          record { define = x; there = e; named = name_to x.name p.0; boolean = p.1 }

  define_from : (i : ℕ) → IsDefineNamed m name i → is_define_named m name i ≡ true
  define_from i v = rw (v.there, name_from v.define.name v.named, v.boolean) refl

  -- the test and what it tests
  decides : Decides (is_signal_name m name) (((i : ℕ) × (i < length m.vars) × IsVariableNamed m name i) ⊎ ((i : ℕ) × (i < length m.defines) × IsDefineNamed m name i))
  unfolding is_signal_name
  decides =
      Decides-or (any_below (is_variable_named m name) (length m.vars)) (any_below (is_define_named m name) (length m.defines))
      (Decides-below_or (is_variable_named m name) (IsVariableNamed m name) (any_below (is_variable_named m name)) (λ i. (variable_to i, variable_from i)) refl (λ n. refl) (length m.vars))
      (Decides-below_or (is_define_named m name) (IsDefineNamed m name) (any_below (is_define_named m name)) (λ i. (define_to i, define_from i)) refl (λ n. refl) (length m.defines))

  pub is_known : (q : Signal) → IsSignalNamed m name q → is_signal_name m name ≡ true
  is_known (signal.Var i) v = decides.1 (inl (i, slice_get_within m.vars i v.variable v.there, v))
  is_known (signal.Def i) v = decides.1 (inr (i, slice_get_within m.defines i v.define v.there, v))

  pub is_unknown : ((q : Signal) → IsSignalNamed m name q → ⊥) → is_signal_name m name ≡ false
  is_unknown none = by (is_signal_name m name) refl
    where
      by : (b : Bool) → is_signal_name m name ≡ b → is_signal_name m name ≡ false
      by true e = absurd (elim (decides.0 e) [ inl v ↦ none (signal.Var v.0) v.2 | inr v ↦ none (signal.Def v.0) v.2 ])
      by false e = e
