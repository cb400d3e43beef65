-- Each promise of a function for C has one answer: two answers that meet it are equal, in number and value, with the place or the state that
-- they hand back and all lent memory. Assumes nothing.
use mathlib.Core.Path.{◌≡◌, sym, ap, ◌∙◌}
use mathlib.Core.List.{List}
use Prim.Native.Nat.{ℕ}
use lib.ListN.{length}
use Rattle.rules.specs.Tables.{Tables}
use Rattle.rules.specs.Build.{builds, checks, run_ends}
use Rattle.rules.specs.Search.{searches}
use Rattle.rules.specs.Probes.{searches_all}
use Rattle.rules.specs.Join.{joins}
use Rattle.rules.specs.Walk.{begun, asks}
use Rattle.rules.specs.declared.Grid.{Grid}
use Rattle.rules.specs.declared.Point.{Point}
use Rattle.rules.specs.declared.Probe.{Probe}
use Rattle.outward.specs.Outward.{told, outward, outward₁, outward₂, outward_run, State, walk_of, outward_start, outward_ask}
use Rattle.outward.specs.declared.Told.{Told}

-- ---- a number and a value, with nothing, one, two or three things beside them

module _ (k k' v v' : ℕ) where
  same_told : told k v ≡ told k' v' → (k ≡ k') × (v ≡ v')
  same_told e = (ap (λ (t : Told). t.number) e, ap (λ (t : Told). t.value) e)

  pub one_told : (w : Told) → told k v ≡ w → told k' v' ≡ w → (k ≡ k') × (v ≡ v')
  one_told w p q = same_told (p ∙ sym q)

  pub one_told₁ : {A : Type 0} (a a' : A) (w : Told × A) → ◌≡◌ {A = Told × A} (told k v, a) w → ◌≡◌ {A = Told × A} (told k' v', a') w
      → (k ≡ k') × (v ≡ v') × (a ≡ a')
  one_told₁ {A} a a' w p q =
      let e = p ∙ sym q in
      let t = same_told (ap (λ (x : Told × A). x.0) e) in
      (t.0, t.1, ap (λ (x : Told × A). x.1) e)

  pub one_told₂ : {A B : Type 0} (a a' : A) (b b' : B) (w : Told × A × B) → ◌≡◌ {A = Told × A × B} (told k v, a, b) w
      → ◌≡◌ {A = Told × A × B} (told k' v', a', b') w → (k ≡ k') × (v ≡ v') × (a ≡ a') × (b ≡ b')
  one_told₂ {A} {B} a a' b b' w p q =
      let e = p ∙ sym q in
      let t = same_told (ap (λ (x : Told × A × B). x.0) e) in
      (t.0, t.1, ap (λ (x : Told × A × B). x.1) e, ap (λ (x : Told × A × B). x.2) e)

  pub one_told₃ : {A B C : Type 0} (a a' : A) (b b' : B) (c c' : C) (w : Told × A × B × C) → ◌≡◌ {A = Told × A × B × C} (told k v, a, b, c) w
      → ◌≡◌ {A = Told × A × B × C} (told k' v', a', b', c') w → (k ≡ k') × (v ≡ v') × (a ≡ a') × (b ≡ b') × (c ≡ c')
  one_told₃ {A} {B} {C} a a' b b' c c' w p q =
      let e = p ∙ sym q in
      let t = same_told (ap (λ (x : Told × A × B × C). x.0) e) in
      (t.0, t.1, ap (λ (x : Told × A × B × C). x.1) e, ap (λ (x : Told × A × B × C). x.2) e, ap (λ (x : Told × A × B × C). x.3) e)

  -- ---- the eight functions on number slices

  module _ (g : Grid) where
    pub one_build_n : (reg starts entries s s' e e' : List ℕ) → (told k v, s, e) ≡ outward₂ (builds g reg starts entries)
        → (told k' v', s', e') ≡ outward₂ (builds g reg starts entries) → (k ≡ k') × (v ≡ v') × (s ≡ s') × (e ≡ e')
    one_build_n reg starts entries s s' e e' = one_told₂ s s' e e' (outward₂ (builds g reg starts entries))

    pub one_check_n : (reg starts entries : List ℕ) → told k v ≡ outward (checks g reg starts entries)
        → told k' v' ≡ outward (checks g reg starts entries) → (k ≡ k') × (v ≡ v')
    one_check_n reg starts entries = one_told (outward (checks g reg starts entries))

    pub one_run_n : (starts entries : List ℕ) (tile class a a' : ℕ) → (told k v, a) ≡ outward_run (run_ends g starts (length entries) tile class)
        → (told k' v', a') ≡ outward_run (run_ends g starts (length entries) tile class) → (k ≡ k') × (v ≡ v') × (a ≡ a')
    one_run_n starts entries tile class a a' = one_told₁ a a' (outward_run (run_ends g starts (length entries) tile class))

    pub one_search_n : (t : Tables) (q : Point) (r : ℕ) (out o o' : List ℕ) → (told k v, o) ≡ outward₁ (searches g t q r out)
        → (told k' v', o') ≡ outward₁ (searches g t q r out) → (k ≡ k') × (v ≡ v') × (o ≡ o')
    one_search_n t q r out o o' = one_told₁ o o' (outward₁ (searches g t q r out))

    pub one_search_all_n : (t : Tables) (ps : List Probe) (out ends o o' e e' : List ℕ) → (told k v, o, e) ≡ outward₂ (searches_all g t ps out ends)
        → (told k' v', o', e') ≡ outward₂ (searches_all g t ps out ends) → (k ≡ k') × (v ≡ v') × (o ≡ o') × (e ≡ e')
    one_search_all_n t ps out ends o o' e e' = one_told₂ o o' e e' (outward₂ (searches_all g t ps out ends))

    pub one_start_n : (t : Tables) (q : Point) (front : List ℕ) (s s' : State) (f f' : List ℕ) → (told k v, s, f) ≡ outward_start (begun g t q front)
        → (told k' v', s', f') ≡ outward_start (begun g t q front) → (k ≡ k') × (v ≡ v') × (s ≡ s') × (f ≡ f')
    one_start_n t q front s s' f f' = one_told₂ s s' f f' (outward_start (begun g t q front))

    pub one_ask_n : (t : Tables) (front : List ℕ) (x y waiting mark j : ℕ) (out : List ℕ) (s s' : State) (f f' o o' : List ℕ)
        → (told k v, s, f, o) ≡ outward_ask (asks g t front (walk_of x y waiting mark) j out)
        → (told k' v', s', f', o') ≡ outward_ask (asks g t front (walk_of x y waiting mark) j out)
        → (k ≡ k') × (v ≡ v') × (s ≡ s') × (f ≡ f') × (o ≡ o')
    one_ask_n t front x y waiting mark j out s s' f f' o o' = one_told₃ s s' f f' o o' (outward_ask (asks g t front (walk_of x y waiting mark) j out))

    pub one_join_n : (tr ts : Tables) (r : ℕ) (out o o' : List ℕ) → (told k v, o) ≡ outward₁ (joins g tr ts r out)
        → (told k' v', o') ≡ outward₁ (joins g tr ts r out) → (k ≡ k') × (v ≡ v') × (o ≡ o')
    one_join_n tr ts r out o o' = one_told₁ o o' (outward₁ (joins g tr ts r out))
