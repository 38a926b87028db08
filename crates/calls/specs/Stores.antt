-- "No call changes any byte but the destination of a copy, fill or clear", of a function whose contract can't say it, since the bytes go on to its
-- caller: a test of its MIR, which is what is proved and compiled. It stores in its own locals alone, and hands no reference on.
use Rattle.std.specs.Prelude.{ℕ, zero, suc, Bool, true, false, ◌&&◌, List, [], ◌∷◌}
use mir.Syntax.{Ty, ty_int, ty_bool, ty_float, ty_ptr, ty_ref, ty_array, ty_unit, ty_struct, ty_enum, ty_param, ty_const, ty_array_p, ty_named, Tys, tnil, tcons, Tyss, ttnil, ttcons, Step, deref, field, variant, Place, place, fn, method, forked, awaited, prim, Opd, copy, int, int_neg, int_big, float, opd_true, opd_false, opd_unit, ptr_const, size_of, align_of, num_of, fn_addr, vtable, Body, skip, seq, assign, block, loop, cond, switch, exit, return, call, unreachable, call_v, lend_static, Arms, arm, default, no_default, Local, local, Fn}

-- within a local: nothing is reached through a reference
abbrev pub within : List Step → Bool
within [] = true
within (deref type ∷ steps) = false
within (field k ∷ steps) = within steps
within (variant k ∷ steps) = within steps

abbrev pub in_local : Place → Bool
in_local (place i steps) = within steps

-- a value of the type holds no reference. Of a type that is not spelled out, with a parameter or a name in it, the answer is no
abbrev mutual
  pub plain : Ty → Bool
  plain (ty_int width) = true
  plain ty_bool = true
  plain (ty_float format) = true
  plain ty_ptr = false
  plain (ty_ref lifetime mutability type) = false
  plain (ty_array type n) = plain type
  plain ty_unit = true
  plain (ty_struct name types) = plains types
  plain (ty_enum name variants) = plainss variants
  plain (ty_param i) = false
  plain (ty_const n) = false
  plain (ty_array_p type i) = false
  plain (ty_named head arguments) = false

  pub plains : Tys → Bool
  plains tnil = true
  plains (tcons type types) = plain type && plains types

  pub plainss : Tyss → Bool
  plainss ttnil = true
  plainss (ttcons types variants) = plains types && plainss variants

module _ (locals : List Local) where
  abbrev plain_at : List Local → ℕ → Bool
  plain_at [] i = false
  plain_at (local type home ∷ rest) zero = plain type
  plain_at (l ∷ rest) (suc i) = plain_at rest i

  -- what a call is handed holds no reference: it is a literal, or comes from a local that holds none
  abbrev pub plain_operand : Opd → Bool
  plain_operand (copy (place i steps)) = plain_at locals i
  plain_operand (int width n) = true
  plain_operand (int_neg width n) = true
  plain_operand (int_big width n) = true
  plain_operand (float format n) = true
  plain_operand opd_true = true
  plain_operand opd_false = true
  plain_operand opd_unit = true
  plain_operand (ptr_const n) = false
  plain_operand (size_of type) = false
  plain_operand (align_of type) = false
  plain_operand (num_of width type) = false
  plain_operand (fn_addr callee signature) = false
  plain_operand (vtable type slots) = false

  abbrev pub plain_operands : List Opd → Bool
  plain_operands [] = true
  plain_operands (x ∷ xs) = plain_operand x && plain_operands xs

  -- The only calls are of functions by their names: none of a dictionary's method, none through a pointer, none in another thread, and no step that
  -- threads have in common.
  abbrev mutual
    pub in_locals : Body → Bool
    in_locals skip = true
    in_locals (seq first then) = in_locals first && in_locals then
    in_locals (assign to value) = in_local to
    in_locals (block body) = in_locals body
    in_locals (loop body) = in_locals body
    in_locals (cond test met unmet) = in_locals met && in_locals unmet
    in_locals (switch number arms) = in_each_arm arms
    in_locals (exit n) = true
    in_locals return = true
    in_locals (call (fn name arguments) handed to) = plain_operands handed && in_local to
    in_locals (call (method dictionary k arguments) handed to) = false
    in_locals (call (forked types callee) handed to) = false
    in_locals (call (awaited types) handed to) = false
    in_locals (call (prim act) handed to) = false
    in_locals unreachable = false
    in_locals (call_v callee signature handed to) = false
    in_locals (lend_static to type constant) = false

    pub in_each_arm : Arms → Bool
    in_each_arm (arm keys body arms) = in_locals body && in_each_arm arms
    in_each_arm (default body) = in_locals body
    in_each_arm no_default = true

abbrev pub stores_nothing : Fn → Bool
stores_nothing f = in_locals f.locals f.body
