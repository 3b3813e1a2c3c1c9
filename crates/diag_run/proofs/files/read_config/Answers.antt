use Rattle.std.proofs.Common.{◌≡◌, ◌≤◌, ℕ, List, Ok, length, nat_le, true, refl, subst, rules, arith}
use Rattle.std.proofs.lemmas.Bool.Decides.{nat_tests}
use Rattle.std.proofs.lemmas.Option.{IfSome_then}
use Rattle.diag_setup.specs.declared.raw.RawSetup.{RawSetup}
use Rattle.diag_config.specs.Setup.{setup_of}
use Rattle.diag_run.specs.Files.{config_of}
use Rattle.diag_run.proofs.files.read_config.Goals as goal

says_setup : (text : List ℕ) (setup : RawSetup) → length text ≤ 1048576 → setup_of text ≡ Ok setup → config_of text ≡ Ok setup
unfolding config_of
says_setup text setup within said =
    let test : nat_le (length text) 1048576 ≡ true = grind (arith, nat_tests) in
    rw (test, said) refl

pub returns-in-Ok-read_setup-clause-read : goal.returns-in-Ok-read_setup-clause-read
returns-in-Ok-read_setup-clause-read g c =
    let text = c.in-Ok.text.items in
    let setup = c.in-Ok-read_setup.setup in
    let said : setup_of text ≡ Ok setup = rw c.as_slice.ensures.value at c.in-Ok-read_setup.ensures.gives in
    let says = says_setup text setup c.in-Ok.ensures.within said in
    IfSome_then (g.R.Source.remaining c.args.config.now) c.in-Ok.ensures.whole (λ bytes is. subst (λ b. config_of b ≡ Ok setup) is says)

pub returns-in-Ok-read_setup-clause-says : goal.returns-in-Ok-read_setup-clause-says
returns-in-Ok-read_setup-clause-says g c =
    let text = c.in-Ok.text.items in
    let setup = c.in-Ok-read_setup.setup in
    let said : setup_of text ≡ Ok setup = rw c.as_slice.ensures.value at c.in-Ok-read_setup.ensures.gives in
    record {
      bytes = text;
      read = (c.in-Ok.ensures.read, c.in-Ok.ensures.end);
      says = says_setup text setup c.in-Ok.ensures.within said;
    }

pub returns : goal.returns
unfolding config_of
returns g c = search rules

pub returns-in-Err-Device-clause-tells : goal.returns-in-Err-Device-clause-tells
returns-in-Err-Device-clause-tells g c = (λ is. c.in-Err-Device.ensures.failed (search rules), λ other. absurd (other refl))
