use mathlib.Core.Path.{sym}
use native.Mathlib.Omega.{arith}
use Rattle.phrases.specs.Phrases.{refusal_words}
use Rattle.phrases.proofs.Table.{no_words}
use Rattle.phrases.proofs.words_of.Goals as goal

pub returns-in-1 : goal.returns-in-1
unfolding refusal_words
returns-in-1 c = rw c.in-1.is

pub returns-in-2 : goal.returns-in-2
unfolding refusal_words
returns-in-2 c = rw c.in-2.is

pub returns-in-3 : goal.returns-in-3
unfolding refusal_words
returns-in-3 c = rw c.in-3.is

pub returns-in-4 : goal.returns-in-4
unfolding refusal_words
returns-in-4 c = rw c.in-4.is

pub returns-in-5 : goal.returns-in-5
unfolding refusal_words
returns-in-5 c = rw c.in-5.is

pub returns-in-6 : goal.returns-in-6
unfolding refusal_words
returns-in-6 c = rw c.in-6.is

pub returns-in-7 : goal.returns-in-7
unfolding refusal_words
returns-in-7 c = rw c.in-7.is

pub returns-in-8 : goal.returns-in-8
unfolding refusal_words
returns-in-8 c = rw c.in-8.is

pub returns-in-9 : goal.returns-in-9
unfolding refusal_words
returns-in-9 c = rw c.in-9.is

pub returns-in-10 : goal.returns-in-10
unfolding refusal_words
returns-in-10 c = rw c.in-10.is

pub returns-in-20 : goal.returns-in-20
unfolding refusal_words
returns-in-20 c = rw c.in-20.is

pub returns-in-21 : goal.returns-in-21
unfolding refusal_words
returns-in-21 c = rw c.in-21.is

pub returns-in-22 : goal.returns-in-22
unfolding refusal_words
returns-in-22 c = rw c.in-22.is

pub returns-in-23 : goal.returns-in-23
unfolding refusal_words
returns-in-23 c = rw c.in-23.is

pub returns-in_default : goal.returns-in_default
returns-in_default c = sym (no_words _ (λ e. omega arith) (λ e. omega arith) (λ e. omega arith) (λ e. omega arith) (λ e. omega arith) (λ e. omega arith) (λ e. omega arith) (λ e. omega arith) (λ e. omega arith) (λ e. omega arith) (λ e. omega arith) (λ e. omega arith) (λ e. omega arith) (λ e. omega arith))
