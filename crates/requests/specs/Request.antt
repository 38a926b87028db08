-- Document 01, "The replay program": the ten codes, and the request that a record's own bytes say.
use Rattle.std.specs.Prelude.{ℕ, ◌+◌, ◌*◌, ◌&&◌, cond, List, [], ◌∷◌, length, eqb, Option, None, Some}
use Rattle.requests.specs.Bytes.{byte_at, number32}

pub data Request : Type 0 where
  -- size, align
  allocate : ℕ → ℕ → Request
  -- offset, size, align
  free : ℕ → ℕ → ℕ → Request
  -- offset, old size, old align, new size, new align
  grow : ℕ → ℕ → ℕ → ℕ → ℕ → Request
  shrink : ℕ → ℕ → ℕ → ℕ → ℕ → Request
  reset : Request
  set_limit : ℕ → Request
  no_limit : Request
  -- size, align
  allocate_with_token : ℕ → ℕ → Request
  -- block offset, count, pointer
  cancel : ℕ → ℕ → ℕ → Request
  -- offset, old size, align, new size
  resize : ℕ → ℕ → ℕ → ℕ → Request

-- a code, how many 4-byte fields follow it, and the request that they say: the fields are handed over by their place, from 0
pub record Form : Type 0 where
  pub code : ℕ
  pub fields : ℕ
  pub says : (ℕ → ℕ) → Request

abbrev pub form_of : ℕ → ℕ → ((ℕ → ℕ) → Request) → Form
form_of code fields says = record { code = code; fields = fields; says = says }

-- "Codes: 1 allocate (size, align); 2 free (offset, size, align); .."
abbrev pub forms : List Form
forms =
    form_of 1 2 (λ f. allocate (f 0) (f 1))
    ∷ (form_of 2 3 (λ f. free (f 0) (f 1) (f 2))
    ∷ (form_of 3 5 (λ f. grow (f 0) (f 1) (f 2) (f 3) (f 4))
    ∷ (form_of 4 5 (λ f. shrink (f 0) (f 1) (f 2) (f 3) (f 4))
    ∷ (form_of 5 0 (λ f. reset)
    ∷ (form_of 6 1 (λ f. set_limit (f 0))
    ∷ (form_of 7 0 (λ f. no_limit)
    ∷ (form_of 8 2 (λ f. allocate_with_token (f 0) (f 1))
    ∷ (form_of 9 3 (λ f. cancel (f 0) (f 1) (f 2)) ∷ (form_of 10 4 (λ f. resize (f 0) (f 1) (f 2) (f 3)) ∷ [])))))))))

-- a field of a record's own bytes, which begin with the code
abbrev pub field_of : List ℕ → ℕ → ℕ
field_of body k = number32 body (1 + 4 * k)

-- the request of the form that has this code and suits this length
unfoldable pub request_by : List Form → ℕ → ℕ → (ℕ → ℕ) → Option Request
request_by [] code size field = None
request_by (f ∷ fs) code size field =
    cond (eqb code f.code && eqb size (1 + 4 * f.fields)) (Some (f.says field)) (request_by fs code size field)

-- "Any other code, no code, or a length that doesn't suit the code, is a bad record": no request
unfoldable pub request_of : List ℕ → Option Request
request_of body = request_by forms (byte_at body 0) (length body) (field_of body)
