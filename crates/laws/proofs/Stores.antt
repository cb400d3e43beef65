-- Two stores side by side, and lists that agree from a place on. Assumes nothing.
use mathlib.Core.Path.{◌≡◌, sym, ap, ap₂, ◌∙◌}
use mathlib.Core.List.{List, [], ◌∷◌, ◌++◌, append_assoc}
use Prim.Native.Nat.{ℕ, suc, ◌+◌, ◌-◌, ◌≤◌}
use native.Mathlib.Omega.{arith}
use lib.ListN.{length, take, drop, set, length-set, take-append-drop}
use lib.Seq.{take-suc-set, drop-set-lt, drop-drop}

pub two_stores : (l : List ℕ) (a u v : ℕ) → a + 2 ≤ length l → set (set l a u) (a + 1) v ≡ take a l ++ (u ∷ v ∷ drop (a + 2) l)
two_stores l a u v h =
    let first = set l a u in
    let n : length first ≡ length l = length-set l a u in
    let k : a + 1 ≡ suc a = omega arith in
    let m : suc (a + 1) ≡ a + 2 = omega arith in
    let t : take (suc (a + 1)) (set first (a + 1) v) ≡ take (a + 1) first ++ (v ∷ []) = take-suc-set first (a + 1) v (omega arith) in
    let s : take (a + 1) first ≡ take a l ++ (u ∷ []) = ap (λ (i : ℕ). take i first) k ∙ take-suc-set l a u (omega arith) in
    let d : drop (suc (a + 1)) (set first (a + 1) v) ≡ drop (a + 2) l =
    drop-set-lt (suc (a + 1)) first (a + 1) v (omega arith) ∙ drop-set-lt (suc (a + 1)) l a u (omega arith) ∙ ap (λ (i : ℕ). drop i l) m in
    sym (take-append-drop (suc (a + 1)) (set first (a + 1) v))
    ∙ ap₂ (λ (x y : List ℕ). x ++ y) (t ∙ ap (λ (x : List ℕ). x ++ (v ∷ [])) s ∙ append_assoc (take a l) (u ∷ []) (v ∷ [])) d
    ∙ append_assoc (take a l) (u ∷ v ∷ []) (drop (a + 2) l)

pub drop_more : (x y : List ℕ) (a b : ℕ) → a ≤ b → drop a x ≡ drop a y → drop b x ≡ drop b y
drop_more x y a b h e =
    let f : b ≡ a + (b - a) = omega arith in
    ap (λ (k : ℕ). drop k x) f ∙ sym (drop-drop (b - a) a x) ∙ ap (drop (b - a)) e ∙ drop-drop (b - a) a y ∙ ap (λ (k : ℕ). drop k y) (sym f)
