-- One line of a script after another.
use Rattle.std.proofs.Common.{◌≡◌, ℕ, ◌+◌, List, [], ◌∷◌, ◌++◌, Some, None, Option, sym, refl, ap, ◌∙◌, subst, append_assoc, append-nil}
use Rattle.frames.specs.declared.calls.Call.{Call}
use Rattle.script.specs.declared.faults.Expected.TheVariants.{Request}
use Rattle.script.specs.declared.faults.LineFault.{LineFault}
use Rattle.script.specs.Scripts.{unread, CallLine, Scripted, no_more, no_call, one_more}

-- at line k, these lines are to come: the calls that they ask for go after those read
pub record Sofar (first : ℕ) (all : List (List ℕ)) (k : ℕ) (left : List (List ℕ)) (read : List Call) : Type 0 where
  pub goes : (more : List Call) (f : Option LineFault) → Scripted k left more f → Scripted first all (read ++ more) f

module _ {first : ℕ} {all : List (List ℕ)} {k : ℕ} {left : List (List ℕ)} {read : List Call} (sofar : Sofar first all k left read) where
  ends : (cs : List Call) (f : Option LineFault) → cs ≡ read → Scripted k left [] f → Scripted first all cs f
  ends cs f kept here = subst (λ (ds : List Call). Scripted first all ds f) (append-nil read ∙ sym kept) (sofar.goes [] f here)

  module _ (l : List ℕ) (ls : List (List ℕ)) (split : left ≡ l ∷ ls) where
    pub no_call_here : CallLine l None → (cs : List Call) (f : Option LineFault) (n : ℕ) → cs ≡ read → n ≡ k → f ≡ unread n Request → Scripted first all cs f
    no_call_here none cs f n kept number named =
        ends cs f kept (subst (λ ms. Scripted k ms [] f) (sym split) (subst (λ (x : Option LineFault). Scripted k (l ∷ ls) [] x) (sym (named ∙ ap (λ m. unread m Request) number)) (no_call none)))

    pub call_here : (c : Call) (n : ℕ) (read' : List Call) → CallLine l (Some c) → n ≡ k + 1 → read' ≡ read ++ c ∷ [] → Sofar first all n ls read'
    call_here c n read' call number added =
        record {
          goes =
              λ more f next.
              subst (λ (cs : List Call). Scripted first all cs f) (sym (ap (λ (cs : List Call). cs ++ more) added ∙ append_assoc read (c ∷ []) more))
              (sofar.goes (c ∷ more) f (subst (λ ms. Scripted k ms (c ∷ more) f) (sym split) (one_more c call (subst (λ m. Scripted m ls more f) number next))));
        }

  pub all_read : left ≡ [] → Scripted first all read None
  all_read none = ends read None refl (subst (λ ms. Scripted k ms [] None) (sym none) no_more)
