use Rattle.std.proofs.Common.{◌≡◌, ◌∷◌, [], ◌++◌, None, refl, rules}
use Rattle.std.proofs.lemmas.Result.{IfOk-weaker, on_err_weaker}
use Rattle.diag_desk.proofs.Pieces.{behind_fault, fault_taken, headed_asks, headed_taken, header_taken, no_header, none_before, none_taken}
use Rattle.diag_desk.proofs.following.TextReplay.take_lines.Goals as goal

pub returns-then-is_some-clause-took : goal.returns-then-is_some-clause-took
returns-then-is_some-clause-took c = behind_fault c.args.setup.now c.args.self.now c.args.text.now (λ none. search rules)

pub returns-in_default-clause-took : goal.returns-in_default-clause-took
returns-in_default-clause-took c = none_taken _ c.args.text.now c.in_default.ensures

pub returns-in_default-version_of-clause-took : goal.returns-in_default-version_of-clause-took
returns-in_default-version_of-clause-took c =
    fault_taken c.args.setup.now c.args.self.now _ c.args.text.now 1 refl (λ seen h more.
    no_header c.args.setup.now c.args.self.now (search rules) (search rules) seen h c.args.text.now c.in-Some.first.now c.in-Some.rest.now c.in-Some.ensures
    (λ version is. c.in_default-version_of.ensures.none version is) more)

pub take_entries-requires-2-clause-taken : goal.take_entries-requires-2-clause-taken
take_entries-requires-2-clause-taken c = (
  c.in-Some.first.now ++ 10 ∷ [],
  header_taken c.args.setup.now c.args.self.now (search rules) (search rules) c.requires.0 c.requires.1 _ c.in-Some.first.now (search rules) refl refl refl
      refl
      c.in-Some-version_of.ensures.some,
)

pub returns-clause-took : goal.returns-clause-took
returns-clause-took c =
    let none : c.args.self.now.fault ≡ None = search rules in
    IfOk-weaker c.take_entries-2.result _ _
    (λ rest t. headed_taken c.args.setup.now c.args.self.now _ c.take_entries-2.new.self c.args.text.now c.in-Some.first.now c.in-Some.rest.now rest.now
    c.in-Some.ensures
    (λ seen h. (
      none_before c.args.setup.now c.args.self.now (search rules) none seen h,
      header_taken c.args.setup.now c.args.self.now (search rules) none seen h _ c.in-Some.first.now none refl refl refl refl c.in-Some-version_of.ensures.some,
    )) t) c.take_entries-2.ensures.took

pub returns-clause-memory : goal.returns-clause-memory
returns-clause-memory c =
    let none : c.args.self.now.fault ≡ None = search rules in
    on_err_weaker c.take_entries-2.result
    (λ asks. headed_asks c.args.setup.now c.args.self.now _ c.args.text.now c.in-Some.first.now c.in-Some.rest.now c.in-Some.ensures
    (λ seen h. (
      none_before c.args.setup.now c.args.self.now (search rules) none seen h,
      header_taken c.args.setup.now c.args.self.now (search rules) none seen h _ c.in-Some.first.now none refl refl refl refl c.in-Some-version_of.ensures.some,
    )) asks) c.take_entries-2.ensures.memory
