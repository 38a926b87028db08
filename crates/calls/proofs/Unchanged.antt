-- What `stores_nothing` comes to on the machine: a function whose code has it leaves every block of memory that was there before as it was, if the calls that
-- it makes and hands no reference do. A place within a local lies in the local's block, which is new, and a store changes the block that it is made in; the
-- rest is an induction on the code, as the logic's own on the shape of memory, over the run as `prog.Direct` writes it out and shows it to be the machine's.
-- Assumes nothing.
use mathlib.Core.Path.{◌≡◌, refl, sym, ◌∙◌, ap, subst}
use mathlib.Core.Bool.{Bool, true, false, ◌&&◌, false≢true}
use mathlib.Core.List.{List, [], ◌∷◌}
use mathlib.Core.Logic.{◌⊎◌, inl, inr}
use mathlib.Core.Option.{Option, none, some, some-injective, none-ne-some}
use Prim.Native.Nat.{ℕ, zero, suc, ◌+◌, ◌<◌}
use native.Mathlib.Omega.{arith}
use lib.ListN.{length, set, length-append, get_or-append}
use lib.Seq.{get_or-set_other}
use mir.Mem.{Cell, fresh}
use mir.Syntax.{Symbol, Args, fn, method, forked, awaited, prim, Width, Ty, ttnil, Step, deref, field, variant, Place, place, Opd, copy, int, int_neg, int_big, float, opd_true, opd_false, opd_unit, ptr_const, size_of, align_of, num_of, fn_addr, vtable, Body, skip, seq, assign, block, loop, cond, switch, exit, return, call, unreachable, call_v, lend_static, Arms, arm, default, no_default, Local, Fn}
use mir.Val.{Val, vunit, vbool, vint, vfloat, vptr, vcode, vstruct, has_ty, has_at, tagged, tag_of, rest_of, has_key, as_bool, as_int, as_ptr, as_some}
use prog.Memory.{Block, Memory, align, size, enc, bind, entry_at, cells_in, splice, store_cells, store_m, alloc_m, free_m, field_of, variant_of}
use prog.Wp.{Out, next, exits, returns}
use prog.Machine.{Res, stuck, timeout, done, ask, of_opt, check, stuck≢done, timeout≢done, ask≢done, done_inj, bind_r, bind_done, Frame, Spot, no_local, spot_of, read_m, write_m, Run, ret, jam, on_memory, alone, provided, walk, eval_opd, eval_opds, after_seq_m, after_block_m, after_turn_m, turns_m, branch_m, CallM, ty_of, alloc_env, alloc_mem, run_fn}
use prog.Direct.{walk_m, eval_opd_m, eval_opds_m, eval_rv_m, put_m, exec_in, exec_arms, release_m, pass_m, params_m, at_return_m, run_fn_is}
use Rattle.calls.specs.Stores.{within, in_local, plain_operands, in_locals, in_each_arm, stores_nothing}

-- ---- a computation that ended, taken apart
bind_inv : {A B : Type 0} (m : Option A) (f : A → Option B) (r : B) → bind m f ≡ some r → (a : A) × (m ≡ some a) × (f a ≡ some r)
bind_inv none f r e = absurd (none-ne-some r e)
bind_inv (some a) f r e = (a, refl, e)

bind_r_inv : {A B : Type 0} (m : Res A) (k : A → Res B) (r : B) → bind_r m k ≡ done r → (a : A) × (m ≡ done a) × (k a ≡ done r)
bind_r_inv stuck k r e = stuck≢done e
bind_r_inv timeout k r e = timeout≢done e
bind_r_inv (done a) k r e = (a, refl, e)
bind_r_inv (ask q c) k r e = ask≢done e

check_inv : {A : Type 0} (t : Bool) (m : Res A) (r : A) → check t m ≡ done r → (t ≡ true) × (m ≡ done r)
check_inv true m r e = (refl, e)
check_inv false m r e = stuck≢done e

of_opt_inv : {A : Type 0} (x : Option A) (r : A) → of_opt x ≡ done r → x ≡ some r
of_opt_inv none r e = stuck≢done e
of_opt_inv (some a) r e = ap some (done_inj e)

left : (a b : Bool) → (a && b) ≡ true → a ≡ true
left true b e = refl
left false b e = e

right : (a b : Bool) → (a && b) ≡ true → b ≡ true
right true b e = e
right false b e = absurd (false≢true e)

-- a local that does not exist has no value
no_value : (v : Val) → has_ty no_local.0 v ≡ true → ⊥
no_value vunit e = false≢true e
no_value (vbool b) e = false≢true e
no_value (vint w n) e = false≢true e
no_value (vfloat f x) e = false≢true e
no_value (vptr k o) e = false≢true e
no_value (vcode target) e = false≢true e
no_value (vstruct vs) e = false≢true (right (tagged vs) (has_at ttnil (tag_of vs) (rest_of vs)) e)

-- ---- an operand's value is the machine's, which leaves the memory as it is
tested : {A : Type 0} (t : Bool) (a r : A) (σ : Memory) → check t (done a) ≡ done r → provided on_memory t (ret a) σ ≡ done (r, σ)
tested true a r σ e = ap (λ x. done (x, σ)) (done_inj e)
tested false a r σ e = stuck≢done e

constant : {A : Type 0} (a r : A) (σ : Memory) → done a ≡ done r → ret a σ ≡ done (r, σ)
constant a r σ e = ap (λ x. done (x, σ)) (done_inj e)

at_pointer : {A : Type 0} (v : Val) (F : ℕ → ℕ → Run A) (G : ℕ → ℕ → Res A) (r : A) (σ : Memory) → ((b o : ℕ) → G b o ≡ done r → F b o σ ≡ done (r, σ))
    → as_ptr stuck v G ≡ done r → as_ptr jam v F σ ≡ done (r, σ)
at_pointer vunit F G r σ h e = stuck≢done e
at_pointer (vbool b) F G r σ h e = stuck≢done e
at_pointer (vint w n) F G r σ h e = stuck≢done e
at_pointer (vfloat f x) F G r σ h e = stuck≢done e
at_pointer (vptr k o) F G r σ h e = h k o e
at_pointer (vcode target) F G r σ h e = stuck≢done e
at_pointer (vstruct vs) F G r σ h e = stuck≢done e

at_some : {A B : Type 0} (x : Option A) (F : A → Run B) (G : A → Res B) (r : B) (σ : Memory) → ((a : A) → G a ≡ done r → F a σ ≡ done (r, σ))
    → bind_r (of_opt x) G ≡ done r → as_some jam x F σ ≡ done (r, σ)
at_some none F G r σ h e = stuck≢done e
at_some (some a) F G r σ h e = h a e

loaded : (σ : Memory) (sp : Spot) (v : Val) → read_m σ sp.0 sp.1 sp.2 ≡ done v → alone.load sp.0 sp.1 sp.2 σ ≡ done (v, σ)
loaded σ sp v e = bind_done e (λ x. ret x σ) refl

walked : (σ : Memory) (E : Frame) (sp : Spot) (st : List Step) (sp' : Spot) → walk_m σ E sp st ≡ done sp' → walk on_memory alone E sp st σ ≡ done (sp', σ)
walked σ E sp [] sp' e = constant sp sp' σ e
walked σ E sp (deref τ ∷ st) sp' e =
    let p = bind_r_inv (read_m σ sp.0 sp.1 sp.2) (λ v. as_ptr stuck v (λ b o. walk_m σ E (τ, b, o) st)) sp' e in
    bind_done (loaded σ sp p.0 p.1) (λ r. as_ptr jam r.0 (λ b o. walk on_memory alone E (τ, b, o) st) r.1)
    (at_pointer p.0 (λ b o. walk on_memory alone E (τ, b, o) st) (λ b o. walk_m σ E (τ, b, o) st) sp' σ (λ b o. walked σ E (τ, b, o) st sp') p.2)
walked σ E sp (field k ∷ st) sp' e =
    at_some (field_of sp.0 k) (λ f. walk on_memory alone E (f.0, sp.1, sp.2 + f.1) st) (λ f. walk_m σ E (f.0, sp.1, sp.2 + f.1) st) sp' σ
    (λ f. walked σ E (f.0, sp.1, sp.2 + f.1) st sp') e
walked σ E sp (variant k ∷ st) sp' e =
    at_some (variant_of sp.0 k) (λ τ. walk on_memory alone E (τ, sp.1, sp.2) st) (λ τ. walk_m σ E (τ, sp.1, sp.2) st) sp' σ (λ τ. walked σ E (τ, sp.1, sp.2) st sp') e

operand : (σ : Memory) (E : Frame) (x : Opd) (v : Val) → eval_opd_m σ E x ≡ done v → eval_opd on_memory alone E x σ ≡ done (v, σ)
operand σ E (copy (place i st)) v e =
    let p = bind_r_inv (walk_m σ E (spot_of E i) st) (λ sp. read_m σ sp.0 sp.1 sp.2) v e in
    bind_done (walked σ E (spot_of E i) st p.0 p.1) (λ r. alone.load r.0.0 r.0.1 r.0.2 r.1) (loaded σ p.0 v p.2)
operand σ E (int w n) v e = tested _ _ v σ e
operand σ E (int_neg w n) v e = tested _ _ v σ e
operand σ E (int_big w n) v e = tested _ _ v σ e
operand σ E (float f n) v e = tested _ _ v σ e
operand σ E opd_true v e = constant _ v σ e
operand σ E opd_false v e = constant _ v σ e
operand σ E opd_unit v e = constant _ v σ e
operand σ E (ptr_const n) v e = stuck≢done e
operand σ E (size_of τ) v e = constant _ v σ e
operand σ E (align_of τ) v e = constant _ v σ e
operand σ E (num_of w τ) v e = tested _ _ v σ e
operand σ E (fn_addr callee signature) v e = constant _ v σ e
operand σ E (vtable τ slots) v e = constant _ v σ e

operands : (σ : Memory) (E : Frame) (xs : List Opd) (vs : List Val) → eval_opds_m σ E xs ≡ done vs → eval_opds on_memory alone E xs σ ≡ done (vs, σ)
operands σ E [] vs e = constant [] vs σ e
operands σ E (x ∷ xs) vs e =
    bind_done (operand σ E x p.0 p.1) (λ r. bind_r (eval_opds on_memory alone E xs r.1) (λ s. ret (r.0 ∷ s.0) s.1))
    (bind_done (operands σ E xs q.0 q.1) (λ s. ret (p.0 ∷ s.0) s.1) (constant (p.0 ∷ q.0) vs σ q.2))
  where
    p : (v : Val) × (eval_opd_m σ E x ≡ done v) × (bind_r (eval_opds_m σ E xs) (λ us. done (v ∷ us)) ≡ done vs)
    p = bind_r_inv (eval_opd_m σ E x) (λ v. bind_r (eval_opds_m σ E xs) (λ us. done (v ∷ us))) vs e

    q : (us : List Val) × (eval_opds_m σ E xs ≡ done us) × (done (p.0 ∷ us) ≡ done vs)
    q = bind_r_inv (eval_opds_m σ E xs) (λ us. done (p.0 ∷ us)) vs p.2

module _ (kept : ℕ) where
  -- the block is as it was
  abbrev pub Same : Memory → Memory → Type 0
  Same σ σ' = entry_at σ' kept ≡ entry_at σ kept

  abbrev pub Keeps : {A : Type 0} → Run A → Type 0
  Keeps {A} W = (σ : Memory) (r : A × Memory) → W σ ≡ done r → Same σ r.1

  -- nothing is stored there in the block: it is in another, or of a type that has no value
  Elsewhere : Spot → Type 0
  Elsewhere sp = (sp.1 ≡ kept → ⊥) ⊎ (sp.0 ≡ no_local.0)

  cells_same : (σ : Memory) (k b o : ℕ) (new : List Cell) (σ' : Memory) → (b ≡ kept → ⊥) → store_cells σ k b o new ≡ some σ' → Same σ σ'
  cells_same σ k b o [] σ' other e = ap (λ (m : Memory). entry_at m kept) (sym (some-injective σ σ' e))
  cells_same σ k b o (c ∷ new) σ' other e =
      ap (λ (m : Memory). entry_at m kept) (sym (some-injective (set σ b (some (p.0.0, q.0, p.0.2))) σ' q.2))
      ∙ get_or-set_other σ b kept (some (p.0.0, q.0, p.0.2)) none (λ same. other (sym same))
    where
      p : (x : Block) × (entry_at σ b ≡ some x) × (bind (cells_in k o x) (λ cs. bind (splice cs o (c ∷ new)) (λ cs'. some (set σ b (some (x.0, cs', x.2))))) ≡ some σ')
      p = bind_inv (entry_at σ b) (λ x. bind (cells_in k o x) (λ cs. bind (splice cs o (c ∷ new)) (λ cs'. some (set σ b (some (x.0, cs', x.2)))))) σ' e

      t : (cs : List Cell) × (cells_in k o p.0 ≡ some cs) × (bind (splice cs o (c ∷ new)) (λ cs'. some (set σ b (some (p.0.0, cs', p.0.2)))) ≡ some σ')
      t = bind_inv (cells_in k o p.0) (λ cs. bind (splice cs o (c ∷ new)) (λ cs'. some (set σ b (some (p.0.0, cs', p.0.2))))) σ' p.2

      q : (cs' : List Cell) × (splice t.0 o (c ∷ new) ≡ some cs') × (some (set σ b (some (p.0.0, cs', p.0.2))) ≡ some σ')
      q = bind_inv (splice t.0 o (c ∷ new)) (λ cs'. some (set σ b (some (p.0.0, cs', p.0.2)))) σ' t.2

  write_same : (σ : Memory) (sp : Spot) (v : Val) (σ' : Memory) → Elsewhere sp → write_m σ sp.0 sp.1 sp.2 v ≡ done σ' → Same σ σ'
  unfolding Elsewhere
  write_same σ sp v σ' (inl other) e =
      let c = check_inv (has_ty sp.0 v) (of_opt (store_m σ sp.0 sp.1 sp.2 v)) σ' e in
      cells_same σ (align sp.0) sp.1 sp.2 (enc sp.0 v) σ' other (of_opt_inv (store_m σ sp.0 sp.1 sp.2 v) σ' c.1)
  write_same σ sp v σ' (inr none-such) e =
      let c = check_inv (has_ty sp.0 v) (of_opt (store_m σ sp.0 sp.1 sp.2 v)) σ' e in
      absurd (no_value v (sym (ap (λ (τ : Ty). has_ty τ v) none-such) ∙ c.0))

  walk-elsewhere : (σ : Memory) (E : Frame) (sp : Spot) (st : List Step) (sp' : Spot) → within st ≡ true → Elsewhere sp → walk_m σ E sp st ≡ done sp' → Elsewhere sp'
  unfolding Elsewhere
  walk-elsewhere σ E sp [] sp' w h e = subst Elsewhere (done_inj e) h
  walk-elsewhere σ E sp (deref τ ∷ st) sp' w h e = absurd (false≢true w)
  walk-elsewhere σ E sp (field k ∷ st) sp' w (inl other) e =
      let p = bind_r_inv (of_opt (field_of sp.0 k)) (λ f. walk_m σ E (f.0, sp.1, sp.2 + f.1) st) sp' e in
      walk-elsewhere σ E (p.0.0, sp.1, sp.2 + p.0.1) st sp' w (inl other) p.2
  walk-elsewhere σ E sp (field k ∷ st) sp' w (inr none-such) e =
      let p = bind_r_inv (of_opt (field_of sp.0 k)) (λ f. walk_m σ E (f.0, sp.1, sp.2 + f.1) st) sp' e in
      absurd (none-ne-some p.0 (sym (ap (λ (τ : Ty). field_of τ k) none-such) ∙ of_opt_inv (field_of sp.0 k) p.0 p.1))
  walk-elsewhere σ E sp (variant k ∷ st) sp' w (inl other) e =
      let p = bind_r_inv (of_opt (variant_of sp.0 k)) (λ τ. walk_m σ E (τ, sp.1, sp.2) st) sp' e in
      walk-elsewhere σ E (p.0, sp.1, sp.2) st sp' w (inl other) p.2
  walk-elsewhere σ E sp (variant k ∷ st) sp' w (inr none-such) e =
      let p = bind_r_inv (of_opt (variant_of sp.0 k)) (λ τ. walk_m σ E (τ, sp.1, sp.2) st) sp' e in
      absurd (none-ne-some p.0 (sym (ap (λ (τ : Ty). variant_of τ k) none-such) ∙ of_opt_inv (variant_of sp.0 k) p.0 p.1))

  -- ---- runs
  ret_inv : {A : Type 0} (a : A) (σ : Memory) (r : A × Memory) → ret a σ ≡ done r → σ ≡ r.1
  ret_inv {A} a σ r e = ap (λ (x : A × Memory). x.1) (done_inj e)

  ret_keeps : {A : Type 0} (a : A) → Keeps (ret a)
  ret_keeps a σ r e = ap (λ (m : Memory). entry_at m kept) (sym (ret_inv a σ r e))

  stuck_keeps : {A : Type 0} → Keeps {A = A} (λ σ. stuck)
  stuck_keeps σ r e = stuck≢done e

  then_keeps : {A B : Type 0} (W : Run A) (k : A → Run B) → Keeps W → ((a : A) → Keeps (k a)) → Keeps (λ σ. bind_r (W σ) (λ r. k r.0 r.1))
  then_keeps {A} {B} W k h g σ r e = g p.0.0 p.0.1 r p.2 ∙ h σ p.0 p.1
    where
      p : (x : A × Memory) × (W σ ≡ done x) × (k x.0 x.1 ≡ done r)
      p = bind_r_inv (W σ) (λ x. k x.0 x.1) r e

  read_keeps : {A B : Type 0} (m : Memory → Res A) (k : A → Run B) → ((a : A) → Keeps (k a)) → Keeps (λ σ. bind_r (m σ) (λ a. k a σ))
  read_keeps {A} {B} m k g σ r e = g p.0 σ r p.2
    where
      p : (a : A) × (m σ ≡ done a) × (k a σ ≡ done r)
      p = bind_r_inv (m σ) (λ a. k a σ) r e

  after_seq_keeps : (W : Run Out) → Keeps W → (o : Out) → Keeps (after_seq_m W o)
  after_seq_keeps W h next = h
  after_seq_keeps W h (exits n) = ret_keeps (exits n)
  after_seq_keeps W h returns = ret_keeps returns

  after_turn_keeps : (W : Run Out) → Keeps W → (o : Out) → Keeps (after_turn_m W o)
  after_turn_keeps W h next = h
  after_turn_keeps W h (exits zero) = h
  after_turn_keeps W h (exits (suc n)) = ret_keeps (exits n)
  after_turn_keeps W h returns = ret_keeps returns

  turns_keeps : (W : Run Out) → Keeps W → (n : ℕ) → Keeps (turns_m W n)
  turns_keeps W h zero σ r e = timeout≢done e
  turns_keeps W h (suc n) σ r e = then_keeps W (after_turn_m (turns_m W n)) h (after_turn_keeps (turns_m W n) (turns_keeps W h n)) σ r e

  branch_keeps : (t : Bool) (X Y : Run Out) → Keeps X → Keeps Y → Keeps (branch_m t X Y)
  branch_keeps true X Y h g = h
  branch_keeps false X Y h g = g

  as_bool_keeps : (v : Val) (F : Bool → Run Out) → ((t : Bool) → Keeps (F t)) → Keeps (λ σ. as_bool stuck v (λ t. F t σ))
  as_bool_keeps vunit F h = stuck_keeps
  as_bool_keeps (vbool b) F h = h b
  as_bool_keeps (vint w a) F h = stuck_keeps
  as_bool_keeps (vfloat f x) F h = stuck_keeps
  as_bool_keeps (vptr k o) F h = stuck_keeps
  as_bool_keeps (vcode target) F h = stuck_keeps
  as_bool_keeps (vstruct vs) F h = stuck_keeps

  as_int_keeps : (v : Val) (F : Width → ℕ → Run Out) → ((w : Width) (x : ℕ) → Keeps (F w x)) → Keeps (λ σ. as_int stuck v (λ w x. F w x σ))
  as_int_keeps vunit F h = stuck_keeps
  as_int_keeps (vbool b) F h = stuck_keeps
  as_int_keeps (vint w a) F h = h w a
  as_int_keeps (vfloat f x) F h = stuck_keeps
  as_int_keeps (vptr k o) F h = stuck_keeps
  as_int_keeps (vcode target) F h = stuck_keeps
  as_int_keeps (vstruct vs) F h = stuck_keeps

  -- a call that is handed no reference leaves the block as it was
  abbrev pub Quiet : CallM → List Local → Frame → Type 0
  Quiet C locals E =
      (name : Symbol) (arguments : Args) (handed : List Opd) → plain_operands locals handed ≡ true → (σ : Memory) (vs : List Val)
      → eval_opds on_memory alone E handed σ ≡ done (vs, σ) → (r : Val × Memory) → C (fn name arguments) vs σ ≡ done r → Same σ r.1

  module _ (C : CallM) (locals : List Local) (E : Frame) (n : ℕ) (quiet : Quiet C locals E) (own : (i : ℕ) → Elsewhere (spot_of E i)) where
    put_keeps : (p : Place) (v : Val) → in_local p ≡ true → Keeps (put_m E p v)
    put_keeps (place i st) v w σ r e =
        ap (λ (m : Memory). entry_at m kept) (sym (ret_inv next y.0 r y.2))
        ∙ write_same σ x.0 v y.0 (walk-elsewhere σ E (spot_of E i) st x.0 w (own i) x.1) y.1
      where
        x : (sp : Spot) × (walk_m σ E (spot_of E i) st ≡ done sp) × (bind_r (write_m σ sp.0 sp.1 sp.2 v) (λ σ'. ret next σ') ≡ done r)
        x = bind_r_inv (walk_m σ E (spot_of E i) st) (λ sp. bind_r (write_m σ sp.0 sp.1 sp.2 v) (λ σ'. ret next σ')) r e

        y : (σ' : Memory) × (write_m σ x.0.0 x.0.1 x.0.2 v ≡ done σ') × (ret next σ' ≡ done r)
        y = bind_r_inv (write_m σ x.0.0 x.0.1 x.0.2 v) (λ σ'. ret next σ') r x.2

    call-keeps : (name : Symbol) (arguments : Args) (xs : List Opd) (d : Place) → plain_operands locals xs ≡ true → in_local d ≡ true
        → Keeps (exec_in C E n (call (fn name arguments) xs d))
    call-keeps name arguments xs d plain into σ r e = put_keeps d q.0.0 into q.0.1 r q.2 ∙ quiet name arguments xs plain σ p.0 (operands σ E xs p.0 p.1) q.0 q.1
      where
        p : (vs : List Val) × (eval_opds_m σ E xs ≡ done vs) × (bind_r (C (fn name arguments) vs σ) (λ z. put_m E d z.0 z.1) ≡ done r)
        p = bind_r_inv (eval_opds_m σ E xs) (λ vs. bind_r (C (fn name arguments) vs σ) (λ z. put_m E d z.0 z.1)) r e

        q : (z : Val × Memory) × (C (fn name arguments) p.0 σ ≡ done z) × (put_m E d z.0 z.1 ≡ done r)
        q = bind_r_inv (C (fn name arguments) p.0 σ) (λ z. put_m E d z.0 z.1) r p.2

    mutual
      exec_keeps : (b : Body) → in_locals locals b ≡ true → Keeps (exec_in C E n b)
      exec_keeps skip w = ret_keeps next
      exec_keeps (seq a b) w =
          then_keeps (exec_in C E n a) (after_seq_m (exec_in C E n b)) (exec_keeps a (left (in_locals locals a) (in_locals locals b) w))
          (after_seq_keeps (exec_in C E n b) (exec_keeps b (right (in_locals locals a) (in_locals locals b) w)))
      exec_keeps (assign p rv) w = read_keeps (λ σ. eval_rv_m σ E rv) (λ v. put_m E p v) (λ v. put_keeps p v w)
      exec_keeps (block b) w = then_keeps (exec_in C E n b) (λ o. ret (after_block_m o)) (exec_keeps b w) (λ o. ret_keeps (after_block_m o))
      exec_keeps (loop b) w = turns_keeps (exec_in C E n b) (exec_keeps b w) n
      exec_keeps (cond c a b) w =
          read_keeps (λ σ. eval_opd_m σ E c) (λ v σ. as_bool stuck v (λ t. branch_m t (exec_in C E n a) (exec_in C E n b) σ))
          (λ v. as_bool_keeps v (λ t. branch_m t (exec_in C E n a) (exec_in C E n b))
          (λ t. branch_keeps t (exec_in C E n a) (exec_in C E n b) (exec_keeps a (left (in_locals locals a) (in_locals locals b) w)) (exec_keeps b (right (in_locals locals a) (in_locals locals b) w))))
      exec_keeps (switch c arms) w =
          read_keeps (λ σ. eval_opd_m σ E c) (λ v σ. as_int stuck v (λ k x. exec_arms C E n arms x σ))
          (λ v. as_int_keeps v (λ k x. exec_arms C E n arms x) (λ k x. arms-keep arms x w))
      exec_keeps (exit k) w = ret_keeps (exits k)
      exec_keeps return w = ret_keeps returns
      exec_keeps (call (fn name arguments) xs d) w =
          call-keeps name arguments xs d (left (plain_operands locals xs) (in_local d) w) (right (plain_operands locals xs) (in_local d) w)
      exec_keeps (call (method dictionary k arguments) xs d) w = absurd (false≢true w)
      exec_keeps (call (forked types callee) xs d) w = absurd (false≢true w)
      exec_keeps (call (awaited types) xs d) w = absurd (false≢true w)
      exec_keeps (call (prim act) xs d) w = absurd (false≢true w)
      exec_keeps unreachable w = absurd (false≢true w)
      exec_keeps (call_v callee signature xs d) w = absurd (false≢true w)
      exec_keeps (lend_static p type c) w = absurd (false≢true w)

      arms-keep : (arms : Arms) (x : ℕ) → in_each_arm locals arms ≡ true → Keeps (exec_arms C E n arms x)
      arms-keep (arm ks b arms) x w =
          branch_keeps (has_key ks x) (exec_in C E n b) (exec_arms C E n arms x) (exec_keeps b (left (in_locals locals b) (in_each_arm locals arms) w))
          (arms-keep arms x (right (in_locals locals b) (in_each_arm locals arms) w))
      arms-keep (default b) x w = exec_keeps b w
      arms-keep no_default x w = stuck_keeps

  -- ---- a frame: its blocks are new
  Others : Frame → Type 0
  Others [] = Unit {0}
  Others (e ∷ E) = (e.1 ≡ kept → ⊥) × Others E

  others-elsewhere : (E : Frame) → Others E → (i : ℕ) → Elsewhere (spot_of E i)
  unfolding Elsewhere Others
  others-elsewhere [] o i = inr refl
  others-elsewhere (e ∷ E) o zero = inl o.0
  others-elsewhere (e ∷ E) o (suc i) = others-elsewhere E o.1 i

  longer : (σ : Memory) (τ : Ty) → kept < length σ → kept < length (alloc_m σ τ)
  longer σ τ there = omega (arith, there, length-append σ (some (align τ, fresh (size τ), true) ∷ []))

  alloc-others : (ls : List Local) (σ : Memory) → kept < length σ → Others (alloc_env ls σ)
  unfolding Others
  alloc-others [] σ there = tt
  alloc-others (l ∷ ls) σ there = (λ same. omega (arith, there, same), alloc-others ls (alloc_m σ (ty_of l)) (longer σ (ty_of l) there))

  alloc_same : (ls : List Local) (σ : Memory) → kept < length σ → Same σ (alloc_mem ls σ)
  alloc_same [] σ there = refl
  alloc_same (l ∷ ls) σ there =
      alloc_same ls (alloc_m σ (ty_of l)) (longer σ (ty_of l) there)
      ∙ get_or-append σ (some (align (ty_of l), fresh (size (ty_of l)), true) ∷ []) none kept there

  pass_same : (E : Frame) → Others E → (vs : List Val) (σ σ' : Memory) → pass_m E vs σ ≡ done σ' → Same σ σ'
  unfolding Elsewhere Others
  pass_same E o [] σ σ' e = ap (λ (m : Memory). entry_at m kept) (sym (done_inj e))
  pass_same [] o (v ∷ vs) σ σ' e = stuck≢done e
  pass_same (x ∷ E) o (v ∷ vs) σ σ' e = pass_same E o.1 vs p.0 σ' p.2 ∙ write_same σ (x.0, x.1, zero) v p.0 (inl o.0) p.1
    where
      p : (σ₁ : Memory) × (write_m σ x.0 x.1 zero v ≡ done σ₁) × (pass_m E vs σ₁ ≡ done σ')
      p = bind_r_inv (write_m σ x.0 x.1 zero v) (λ σ₁. pass_m E vs σ₁) σ' e

  params_same : (E : Frame) → Others E → (vs : List Val) (σ σ' : Memory) → params_m E vs σ ≡ done σ' → Same σ σ'
  unfolding Others
  params_same [] o vs σ σ' e = stuck≢done e
  params_same (x ∷ E) o vs σ σ' e = pass_same E o.1 vs σ σ' e

  release-same : (E : Frame) → Others E → (σ : Memory) → Same σ (release_m E σ)
  unfolding Others
  release-same [] o σ = refl
  release-same (e ∷ E) o σ = release-same E o.1 (free_m σ e.1) ∙ get_or-set_other σ e.1 kept none none (λ same. o.0 (sym same))

  return-keeps : (E : Frame) → Others E → (o : Out) → Keeps (at_return_m E o)
  return-keeps E others next σ r e = stuck≢done e
  return-keeps E others (exits n) σ r e = stuck≢done e
  return-keeps E others returns σ r e = ap (λ (m : Memory). entry_at m kept) (sym (ret_inv p.0 (release_m E σ) r p.2)) ∙ release-same E others σ
    where
      p : (v : Val) × (read_m σ (spot_of E zero).0 (spot_of E zero).1 zero ≡ done v) × (ret v (release_m E σ) ≡ done r)
      p = bind_r_inv (read_m σ (spot_of E zero).0 (spot_of E zero).1 zero) (λ v. ret v (release_m E σ)) r e

  -- the whole call: the locals are laid out, the code runs, and they are given up
  pub run-keeps : (C : CallM) (n : ℕ) (f : Fn) → stores_nothing f ≡ true → (vs : List Val) (σ : Memory) → kept < length σ → Quiet C f.locals (alloc_env f.locals σ)
      → (r : Val × Memory) → run_fn C n f vs σ ≡ done r → Same σ r.1
  run-keeps C n f nothing vs σ there quiet r e =
      return-keeps E others q.0.0 q.0.1 r q.2
      ∙ exec_keeps C f.locals E n quiet (others-elsewhere E others) f.body nothing p.0 q.0 q.1
      ∙ params_same E others vs (alloc_mem f.locals σ) p.0 p.1
      ∙ alloc_same f.locals σ there
    where
      E : Frame
      E = alloc_env f.locals σ

      others : Others E
      others = alloc-others f.locals σ there

      p : (σ₁ : Memory) × (params_m E vs (alloc_mem f.locals σ) ≡ done σ₁) × (bind_r (exec_in C E n f.body σ₁) (λ z. at_return_m E z.0 z.1) ≡ done r)
      p = bind_r_inv (params_m E vs (alloc_mem f.locals σ)) (λ σ₁. bind_r (exec_in C E n f.body σ₁) (λ z. at_return_m E z.0 z.1)) r (sym (run_fn_is C n f vs σ) ∙ e)

      q : (z : Out × Memory) × (exec_in C E n f.body p.0 ≡ done z) × (at_return_m E z.0 z.1 ≡ done r)
      q = bind_r_inv (exec_in C E n f.body p.0) (λ z. at_return_m E z.0 z.1) r p.2
