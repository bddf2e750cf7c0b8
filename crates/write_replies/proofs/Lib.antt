-- Results that follow others.
mod Following
