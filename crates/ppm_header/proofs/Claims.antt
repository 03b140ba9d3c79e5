-- The claims of specs/Claims.antt. Assumes nothing.
use mathlib.Core.Path.{◌≡◌, refl, sym, ap, ap₂, ◌∙◌}
use mathlib.Core.Bool.{Bool, true, false, ◌&&◌}
use mathlib.Core.List.{List, ◌++◌}
use Prim.Native.Nat.{ℕ}
use lib.ListN.{length, drop}
use Rattle.lists.proofs.Tests.{and_left, and_right}
use Rattle.ppm_header.specs.Text.{header_text}
use Rattle.ppm_header.specs.Header.{begins, header_known, header_of}
use Rattle.ppm_header.specs.Claims.{ReadBack, NoOther, RefusedBy18}
use Rattle.ppm_header.proofs.Fronts.{begins_says}
use Rattle.ppm_header.proofs.Sizes.{known_small}
use Rattle.std.specs.Prelude.{Result, Ok, Err}
use Rattle.refusal.specs.declared.Refusal.TheVariants.{WrongPicture}
use Rattle.refusal.specs.declared.Refusal.{Refusal}
use Rattle.ppm_header.specs.declared.Header.{Header}
use Rattle.ppm_header.proofs.Reading.{gives_back, read_is, accepted, refused}

pub read_back : ReadBack
read_back w h t rest e = let l = known_small w h t e in gives_back w h t rest l.0 l.1 l.2 e

-- the answer for three numbers, either way
module _ (s : List ℕ) (w h t : ℕ) where
  abbrev text : List ℕ
  text = header_text w h t

  abbrev ours : Bool
  ours = header_known w h t && begins text s

  abbrev Begins : ℕ → ℕ → ℕ → ℕ → Type 0
  Begins width height top n =
      (header_known width height top ≡ true) × (n ≡ length (header_text width height top)) × (s ≡ header_text width height top ++ drop n s)

  says : (width height top n : ℕ) → header_of s w h t ≡ Ok (record { width = width; height = height; top = top; length = n }) → Begins width height top n
  says width height top n e = by ours refl
    where
      by : (x : Bool) → ours ≡ x → Begins width height top n
      by true p =
          let q : ◌≡◌ {A = Result Header Refusal} (Ok (record { width = w; height = h; top = t; length = length text })) (Ok (record { width = width; height = height; top = top; length = n })) = accepted s w h t refl refl p ∙ e in
          let r : ◌≡◌ {A = Header} (record { width = w; height = h; top = t; length = length text }) (record { width = width; height = height; top = top; length = n }) = cc in
          let a : w ≡ width = ap (λ (x : Header). x.width) r in
          let b : h ≡ height = ap (λ (x : Header). x.height) r in
          let c : t ≡ top = ap (λ (x : Header). x.top) r in
          let d : n ≡ length text = sym (ap (λ (x : Header). x.length) r) in
          let f : text ≡ header_text width height top = cc in (
            sym (λ i. header_known (a i) (b i) (c i)) ∙ and_left (header_known w h t) (begins text s) p,
            d ∙ ap length f,
            begins_says text s (and_right (header_known w h t) (begins text s) p) ∙ ap₂ (λ (x : List ℕ) (m : ℕ). x ++ drop m s) f (sym d),
          )
      by false p = let q : ◌≡◌ {A = Result Header Refusal} (Err WrongPicture) (Ok (record { width = width; height = height; top = top; length = n })) = refused s w h t refl refl p ∙ e in cc

  refuses : (k : Refusal) → header_of s w h t ≡ Err k → k ≡ WrongPicture
  refuses k e = by ours refl
    where
      by : (x : Bool) → ours ≡ x → k ≡ WrongPicture
      by true p = let q : ◌≡◌ {A = Result Header Refusal} (Ok (record { width = w; height = h; top = t; length = length text })) (Err k) = accepted s w h t refl refl p ∙ e in cc
      by false p = let q : ◌≡◌ {A = Result Header Refusal} (Err WrongPicture) (Err k) = refused s w h t refl refl p ∙ e in cc

pub no_other : NoOther
no_other s width height top n e = says s _ _ _ width height top n (read_is s refl refl refl refl refl ∙ e)

pub refused-by_18 : RefusedBy18
refused-by_18 s k e = refuses s _ _ _ k (read_is s refl refl refl refl refl ∙ e)
