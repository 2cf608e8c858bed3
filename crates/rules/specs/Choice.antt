-- How the definitions put cases one after the other, and a few words about lists.
use Rattle.std.specs.Prelude.{ℕ, zero, suc, ◌-◌, Bool, true, false, ◌&&◌, cond, List, [], ◌∷◌, take, drop, None, Option, Some}
use Prim.Native.Char.{code}
use Prim.Native.String.{String, [] as []ₛ, ◌∷◌ as ◌∷ₛ◌}

module _ {A B : Type 0} where
  -- `given v a f`: f of the value where there is one, else a
  abbrev pub given : Option A → B → (A → B) → B
  given (Some v) a f = f v
  given None a f = a

module _ {A : Type 0} where
  -- `need t a f`: the test t is needed to go on with f; where it fails, a
  abbrev pub need : Bool → A → (Unit {0} → A) → A
  need true a f = f tt
  need false a f = a

module _ {A B : Type 0} where
  -- `on v f`: f of v, as `let x = v in f x`; it stays shut, so that a proof can put for v what code computed of it
  unfoldable pub on : A → (A → B) → B
  on v f = f v

  -- what `found` makes of the first element that passes `test` and its place, the first place being n
  unfoldable pub first_of : (A → Bool) → (ℕ → A → B) → List A → ℕ → Option B
  first_of test found [] n = None
  first_of test found (x ∷ xs) n = cond (test x) (Some (found n x)) (first_of test found xs (suc n))

module _ {A : Type 0} where
  -- the first n elements are there, and each passes the test
  unfoldable pub leads : (A → Bool) → ℕ → List A → Bool
  leads test zero l = true
  leads test (suc n) [] = false
  leads test (suc n) (x ∷ l) = test x && leads test n l

  -- every element is so
  abbrev pub Each : (A → Type 0) → List A → Type 0
  Each P [] = Unit {0}
  Each P (x ∷ xs) = P x × Each P xs

  -- the elements from place a up to place e, places counted from 0
  abbrev pub part : ℕ → ℕ → List A → List A
  part a e l = take (e - a) (drop a l)

-- "bytes in a line count from 1": how many bytes stand before byte n
abbrev pub byte : ℕ → ℕ
byte n = n - 1

-- the bytes of a text
unfoldable pub bytes : String → List ℕ
bytes []ₛ = []
bytes (c ∷ₛ s) = code c ∷ bytes s
