-- Lists by Bool tests: ranges, filters, concatenations, parts, sums; a machine that runs until it has halted. Assumes nothing.
use Rattle.std.specs.Prelude.{Bool, true, false, ◌&&◌, ◌||◌, List, [], ◌∷◌, ◌++◌, ℕ, zero, suc, ◌+◌, ◌-◌, eqb, take, drop, length}

-- x in front of l where the test passes, else l alone
abbrev pub keep {ℓ} : {A : Type ℓ} → Bool → A → List A → List A
keep true x l = x ∷ l
keep false x l = l

-- the elements that pass the test, in order
abbrev pub filter {ℓ} : {A : Type ℓ} → (A → Bool) → List A → List A
filter p [] = []
filter p (x ∷ xs) = keep (p x) x (filter p xs)

-- k numbers from i on
abbrev pub from : ℕ → ℕ → List ℕ
from i zero = []
from i (suc k) = i ∷ from (suc i) k

-- 0 .. k−1
abbrev pub up_to : ℕ → List ℕ
up_to k = from 0 k

-- the lists of all elements, one behind the other
abbrev pub each {ℓ ℓ'} : {A : Type ℓ} {B : Type ℓ'} → (A → List B) → List A → List B
each f [] = []
each f (x ∷ xs) = f x ++ each f xs

-- every element passes
abbrev pub all {ℓ} : {A : Type ℓ} → (A → Bool) → List A → Bool
all p [] = true
all p (x ∷ xs) = p x && all p xs

-- some element passes
abbrev pub any {ℓ} : {A : Type ℓ} → (A → Bool) → List A → Bool
any p [] = false
any p (x ∷ xs) = p x || any p xs

-- a list where the test passes, else nothing
abbrev pub only {ℓ} : {A : Type ℓ} → Bool → List A → List A
only true l = l
only false l = []

-- the part of l from place a up to, and not including, place e
abbrev pub part {ℓ} : {A : Type ℓ} → List A → ℕ → ℕ → List A
part l a e = take (e - a) (drop a l)

-- l written over the beginning of m
abbrev pub over {ℓ} : {A : Type ℓ} → List A → List A → List A
over l m = l ++ drop (length l) m

-- two lists of numbers are the same
abbrev pub same : List ℕ → List ℕ → Bool
same [] [] = true
same [] (b ∷ m) = false
same (a ∷ l) [] = false
same (a ∷ l) (b ∷ m) = eqb a b && same l m

-- how often a number stands in a list
abbrev pub times : ℕ → List ℕ → ℕ
times a l = length (filter (eqb a) l)

-- where the lists f i, f (i+1), .., k of them laid one behind the other from place a on, begin; and where the last ends
abbrev pub places : (ℕ → List ℕ) → ℕ → ℕ → ℕ → List ℕ
places f a i zero = a ∷ []
places f a i (suc k) = a ∷ places f (a + length (f i)) (suc i) k

-- the sum of f over a list
abbrev pub total {ℓ} : {A : Type ℓ} → (A → ℕ) → List A → ℕ
total f [] = 0
total f (a ∷ l) = f a + total f l

-- m, or what comes after it where the test says so
abbrev pub go_on {ℓ} : {A : Type ℓ} → Bool → A → (A → A) → A
go_on true m next = m
go_on false m next = next m

-- a step taken k times, or until the machine has halted
abbrev pub run_for {ℓ} : {A : Type ℓ} → (A → Bool) → (A → A) → ℕ → A → A
run_for halted step zero m = m
run_for halted step (suc k) m = go_on (halted m) m (λ x. run_for halted step k (step x))
